-- `lookup::look_up_read` meets its contract. Assumes nothing.
use Rattle.format.specs.Kit.{◌≡◌, sym, ap, ◌∙◌, true, leb}
use Rattle.format.specs.Limits.{max_id}
use Rattle.format.specs.Refusals.{done}
use Rattle.format.specs.Editions.{editions}
use Rattle.format.specs.Opening.{open_column, head_ok, length_ok}
use Rattle.answers.specs.Replies.{answer_of}
use Rattle.answers.specs.declared.Refusal as Re
use Rattle.answers.proofs.PassedOn.{passed_on}
use Rattle.column.specs.Opened.{column_of}
use Rattle.lookup.proofs.Calls.{of_column, told, id_above, not_opened, opened, opened_fits, read_at_once}
use Rattle.lookup.proofs.look_up_read.Goals as goal
use Rattle.lookup.proofs.look_up_read.Goals.{Else-not-id_ok, In_ok-column, Then-length_ok}
use Rattle.std.specs.Prelude.{Err}

in_range : (c : Else-not-id_ok) → leb c.args.id max_id ≡ true
in_range c = sym c.id_ok.ensures ∙ c.if-not-id_ok.false

-- the header was read at once, and passes
fits : (c : Then-length_ok)
    → let a = c.args in
    (head_ok (column_of a.c).head ≡ true) × (length_ok a.bytes.now (column_of a.c) ≡ true)
fits c = (sym c.head_ok.ensures ∙ c.if-head_ok.true, sym c.length_ok.ensures ∙ c.if-length_ok.true)

open_at : (c : In_ok-column) → open_column editions c.args.bytes.now ≡ done (column_of c.in_ok-column.column)
open_at c = sym c.in_ok-column.ensures

pub returns-then-not-id_ok : goal.returns-then-not-id_ok
returns-then-not-id_ok c =
    let a = c.args in
    let both = told a.bytes.now a.id (Err Re.Refusal.Id)
    (sym (id_above a.bytes.now a.id (sym c.id_ok.ensures ∙ c.if-not-id_ok.true))) tt in
    record { result_value = both.0; words = both.1.0; probes = both.1.1 }

pub returns-then-length_ok : goal.returns-then-length_ok
returns-then-length_ok c =
    let a = c.args in
    let col = column_of a.c in
    let f = fits (goal.at.returns-then-length_ok c).Then-length_ok in
    let o = read_at_once a.bytes.now col c.requires f.0 f.1 in
    let both = told a.bytes.now a.id c.steps_in.result
    (c.steps_in.ensures.0 ∙ sym (opened a.bytes.now a.id (in_range (goal.at.returns-then-length_ok c).Else-not-id_ok) col o))
    (of_column a.bytes.now a.id col c.steps_in.result o c.steps_in.ensures.1) in
    record { result_value = both.0; words = both.1.0; probes = both.1.1 }

pub steps_in-requires-2 : goal.steps_in-requires-2
steps_in-requires-2 c = opened_fits _ _ (open_at c)

pub returns-in_err-column : goal.returns-in_err-column
returns-in_err-column c =
    let a = c.args in
    let e = passed_on c.from_residual.result _ c.from_residual.ensures.1 in
    let both = told a.bytes.now a.id c.from_residual.result
    (ap answer_of e ∙ sym (not_opened a.bytes.now a.id (in_range (goal.at.returns-in_err-column c).Else-not-id_ok) _ (sym c.in_err-column.ensures))) (rw e tt) in
    record { result_value = both.0; words = both.1.0; probes = both.1.1 }

pub returns : goal.returns
returns c =
    let a = c.args in
    let col = column_of c.in_ok-column.column in
    let o = open_at (goal.at.returns c).In_ok-column in
    let both = told a.bytes.now a.id c.steps_in-2.result
    (c.steps_in-2.ensures.0 ∙ sym (opened a.bytes.now a.id (in_range (goal.at.returns c).Else-not-id_ok) col o))
    (of_column a.bytes.now a.id col c.steps_in-2.result o c.steps_in-2.ensures.1) in
    record { result_value = both.0; words = both.1.0; probes = both.1.1 }
