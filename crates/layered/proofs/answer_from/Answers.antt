-- `layered::answer_from` meets its contract. Assumes nothing.
use Rattle.format.specs.Kit.{◌≡◌, sym, ap, ◌∙◌, true, leb}
use Rattle.format.specs.Limits.{max_id}
use Rattle.format.specs.Refusals.{done}
use Rattle.format.specs.Editions.{editions}
use Rattle.format.specs.Opening.{open_column}
use Rattle.column.specs.Opened.{column_of}
use Rattle.answers.specs.Replies.{answer_of}
use Rattle.answers.proofs.PassedOn.{passed_on}
use Rattle.lookup.proofs.Calls.{id_above, not_opened, opened, opened_fits}
use Rattle.layered.proofs.answer_from.Goals as goal
use Rattle.layered.proofs.answer_from.Goals.{Else-not-id_ok, In_ok-column}

in_range : (c : Else-not-id_ok) → leb c.args.id max_id ≡ true
in_range c = sym c.id_ok.ensures ∙ c.if-not-id_ok.false

open_at : (c : In_ok-column) → open_column editions c.args.bytes.now ≡ done (column_of c.in_ok-column.column)
open_at c = sym c.in_ok-column.ensures

pub returns-then-not-id_ok : goal.returns-then-not-id_ok
returns-then-not-id_ok c =
    let a = c.args in
    sym (id_above a.bytes.now a.id (sym c.id_ok.ensures ∙ c.if-not-id_ok.true))

pub steps_in-requires : goal.steps_in-requires
steps_in-requires c = opened_fits _ _ (open_at c)

pub returns-in_err-column : goal.returns-in_err-column
returns-in_err-column c =
    let a = c.args in
    ap answer_of (passed_on c.from_residual.result _ c.from_residual.ensures.1)
    ∙ sym (not_opened a.bytes.now a.id (in_range (goal.at.returns-in_err-column c).Else-not-id_ok) _ (sym c.in_err-column.ensures))

pub returns : goal.returns
returns c =
    let a = c.args in
    c.steps_in.ensures.0 ∙ sym (opened a.bytes.now a.id (in_range (goal.at.returns c).Else-not-id_ok) _ (open_at (goal.at.returns c).In_ok-column))
