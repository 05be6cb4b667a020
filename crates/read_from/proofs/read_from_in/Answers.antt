-- `read_from::read_from_in` meets its contract. Assumes nothing.
use Rattle.format.specs.Kit.{◌≡◌, sym, ◌∙◌, true, leb, leb-true}
use Rattle.format.specs.Limits.{max_id}
use Rattle.format.specs.Opening.{head_ok, length_ok}
use Rattle.answers.specs.declared.Refusal as Re
use Rattle.column.specs.Opened.{column_of}
use Rattle.laws.proofs.ReadCalls.{id_above_in, header_in, length_in, steps_in}
use Rattle.read_from.proofs.Replies.{leaves_as, refusal_leaves}
use Rattle.read_from.proofs.read_from_in.Goals as goal
use Rattle.read_from.proofs.read_from_in.Goals.{Else-not-head_ok, Else-not-id_ok, Else-not-length_ok}

in_range : (c : Else-not-id_ok) → leb c.args.from max_id ≡ true
in_range c = sym c.id_ok.ensures ∙ c.if-not-id_ok.false

the_rules : (c : Else-not-head_ok) → head_ok (column_of c.args.column).head ≡ true
the_rules c = sym c.head_ok.ensures ∙ c.if-not-head_ok.false

whole : (c : Else-not-length_ok) → let a = c.args in length_ok a.bytes.now (column_of a.column)
    ≡ true
whole c = sym c.length_ok.ensures ∙ c.if-not-length_ok.false

pub returns-then-not-id_ok : goal.returns-then-not-id_ok
returns-then-not-id_ok c =
    let a = c.args in
    refusal_leaves _ Re.Refusal.Id a.ids.now a.values.now
    (id_above_in a.bytes.now (column_of a.column) a.from _ (sym c.id_ok.ensures ∙ c.if-not-id_ok.true))

pub returns-then-not-head_ok : goal.returns-then-not-head_ok
returns-then-not-head_ok c =
    let a = c.args in
    refusal_leaves _ Re.Refusal.Header a.ids.now a.values.now
    (header_in a.bytes.now (column_of a.column) a.from _ (in_range (goal.at.returns-then-not-head_ok c).Else-not-id_ok) (sym c.head_ok.ensures
    ∙ c.if-not-head_ok.true))

pub returns-then-not-length_ok : goal.returns-then-not-length_ok
returns-then-not-length_ok c =
    let a = c.args in
    refusal_leaves _ Re.Refusal.Length a.ids.now a.values.now
    (length_in a.bytes.now (column_of a.column) a.from _ (in_range (goal.at.returns-then-not-length_ok c).Else-not-id_ok) (the_rules (goal.at.returns-then-not-length_ok c).Else-not-head_ok)
    (sym c.length_ok.ensures ∙ c.if-not-length_ok.true))

pub read_steps-requires : goal.read_steps-requires
read_steps-requires c =
    (the_rules (goal.at.read_steps-requires c).Else-not-head_ok, whole (goal.at.read_steps-requires c).Else-not-length_ok, leb-true _ max_id (in_range (goal.at.read_steps-requires c).Else-not-id_ok))

pub returns : goal.returns
returns c =
    let a = c.args in
    let w = c.read_steps in
    leaves_as _ _ w.result a.ids.now _ a.values.now _
    (steps_in a.bytes.now (column_of a.column) a.from _
    (in_range (goal.at.returns c).Else-not-id_ok)
    (the_rules (goal.at.returns c).Else-not-head_ok) (whole (goal.at.returns c).Else-not-length_ok)) w.ensures
