-- `lookup::look_up_in` meets its contract. Assumes nothing.
use Rattle.format.specs.Kit.{◌≡◌, sym, ◌∙◌, true, leb}
use Rattle.format.specs.Limits.{max_id}
use Rattle.format.specs.Opening.{head_ok, length_ok}
use Rattle.answers.specs.declared.Refusal as Re
use Rattle.column.specs.Opened.{column_of}
use Rattle.lookup.proofs.Calls.{told_in, id_above_in, header_in, length_in, steps_in}
use Rattle.lookup.proofs.look_up_in.Goals as goal
use Rattle.lookup.proofs.look_up_in.Goals.{Else-not-head_ok, Else-not-id_ok, Else-not-length_ok}
use Rattle.std.specs.Prelude.{Err}

in_range : (c : Else-not-id_ok) → leb c.args.id max_id ≡ true
in_range c = sym c.id_ok.ensures ∙ c.if-not-id_ok.false

the_rules : (c : Else-not-head_ok) → head_ok (column_of c.args.column).head ≡ true
the_rules c = sym c.head_ok.ensures ∙ c.if-not-head_ok.false

whole : (c : Else-not-length_ok) → let a = c.args in length_ok a.bytes.now (column_of a.column) ≡ true
whole c = sym c.length_ok.ensures ∙ c.if-not-length_ok.false

pub returns-then-not-id_ok : goal.returns-then-not-id_ok
returns-then-not-id_ok c =
    let a = c.args in
    let col = column_of a.column in
    let both = told_in a.bytes.now a.id col (Err Re.Refusal.Id)
    (sym (id_above_in a.bytes.now a.id col (sym c.id_ok.ensures ∙ c.if-not-id_ok.true))) tt in
    record { result_value = both.0; words = both.1.0; probes = both.1.1 }

pub returns-then-not-head_ok : goal.returns-then-not-head_ok
returns-then-not-head_ok c =
    let a = c.args in
    let col = column_of a.column in
    let both = told_in a.bytes.now a.id col (Err Re.Refusal.Header)
    (sym (header_in a.bytes.now a.id (in_range (goal.at.returns-then-not-head_ok c).Else-not-id_ok) col (sym c.head_ok.ensures ∙ c.if-not-head_ok.true))) tt in
    record { result_value = both.0; words = both.1.0; probes = both.1.1 }

pub returns-then-not-length_ok : goal.returns-then-not-length_ok
returns-then-not-length_ok c =
    let a = c.args in
    let col = column_of a.column in
    let both = told_in a.bytes.now a.id col (Err Re.Refusal.Length)
    (sym (length_in a.bytes.now a.id (in_range (goal.at.returns-then-not-length_ok c).Else-not-id_ok) col (the_rules (goal.at.returns-then-not-length_ok c).Else-not-head_ok)
    (sym c.length_ok.ensures ∙ c.if-not-length_ok.true))) tt in
    record { result_value = both.0; words = both.1.0; probes = both.1.1 }

pub returns : goal.returns
returns c =
    let a = c.args in
    let col = column_of a.column in
    let both = told_in a.bytes.now a.id col c.steps_in.result
    (c.steps_in.ensures.0
    ∙ sym (steps_in a.bytes.now a.id (in_range (goal.at.returns c).Else-not-id_ok) col (the_rules (goal.at.returns c).Else-not-head_ok) (whole (goal.at.returns c).Else-not-length_ok)))
    c.steps_in.ensures.1 in
    record { result_value = both.0; words = both.1.0; probes = both.1.1 }
