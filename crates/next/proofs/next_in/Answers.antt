-- `next::next_in` meets its contract. Assumes nothing.
use Rattle.format.specs.Kit.{◌≡◌, sym, ◌∙◌, true, false, leb, le-leb, lt-leb, ltb-true, ltb-false}
use Rattle.format.specs.Limits.{max_id}
use Rattle.format.specs.Opening.{head_ok, length_ok}
use Rattle.laws.proofs.InTurn.{id_above_in, gone_back_in, header_in, length_in, steps_in}
use Rattle.column.specs.Opened.{column_of}
use Rattle.next.proofs.Answers.{told_as}
use Rattle.next.proofs.next_in.Goals as goal
use Rattle.next.proofs.next_in.Goals.{Else-goes_back, Else-not-head_ok, Else-not-id_ok, Else-not-length_ok, Then-goes_back}

in_range : (c : Else-not-id_ok) → leb c.args.target max_id ≡ true
in_range c = sym c.id_ok.ensures ∙ c.if-not-id_ok.false

not_back : (c : Else-goes_back) → let a = c.args in leb a.cursor.last a.target ≡ true
not_back c =
    let a = c.args in
    le-leb a.cursor.last a.target (ltb-false a.target a.cursor.last (sym c.goes_back.ensures ∙ c.if-goes_back.false))

the_rules : (c : Else-not-head_ok) → head_ok (column_of c.args.column).head ≡ true
the_rules c = sym c.head_ok.ensures ∙ c.if-not-head_ok.false

whole : (c : Else-not-length_ok) → let a = c.args in
    length_ok a.bytes.now (column_of a.column) ≡ true
whole c = sym c.length_ok.ensures ∙ c.if-not-length_ok.false

back : (c : Then-goes_back) → let a = c.args in leb a.cursor.last a.target ≡ false
back c =
    let a = c.args in
    lt-leb a.cursor.last a.target (ltb-true a.target a.cursor.last (sym c.goes_back.ensures ∙ c.if-goes_back.true))

pub returns-then-not-id_ok : goal.returns-then-not-id_ok
returns-then-not-id_ok c =
    let a = c.args in
    told_as _ _ _ _ c.refused.result
    (sym (id_above_in a.bytes.now (column_of a.column) a.cursor.last a.target
    (sym c.id_ok.ensures ∙ c.if-not-id_ok.true)))
    (c.refused.ensures a.target)

pub returns-then-goes_back : goal.returns-then-goes_back
returns-then-goes_back c =
    let a = c.args in
    told_as _ _ _ _ c.refused-then-goes_back.result
    (sym (gone_back_in a.bytes.now (column_of a.column) a.cursor.last a.target (in_range (goal.at.returns-then-goes_back c).Else-not-id_ok) (back (goal.at.returns-then-goes_back c).Then-goes_back)))
    (c.refused-then-goes_back.ensures a.target)

pub returns-then-not-head_ok : goal.returns-then-not-head_ok
returns-then-not-head_ok c =
    let a = c.args in
    told_as _ _ _ _ c.refused-then-not-head_ok.result
    (sym (header_in a.bytes.now (column_of a.column) a.cursor.last a.target (in_range (goal.at.returns-then-not-head_ok c).Else-not-id_ok) (not_back (goal.at.returns-then-not-head_ok c).Else-goes_back)
    (sym c.head_ok.ensures ∙ c.if-not-head_ok.true)))
    (c.refused-then-not-head_ok.ensures a.target)

pub returns-then-not-length_ok : goal.returns-then-not-length_ok
returns-then-not-length_ok c =
    let a = c.args in
    told_as _ _ _ _ c.refused-then-not-length_ok.result
    (sym (length_in a.bytes.now (column_of a.column) a.cursor.last a.target (in_range (goal.at.returns-then-not-length_ok c).Else-not-id_ok) (not_back (goal.at.returns-then-not-length_ok c).Else-goes_back) (the_rules (goal.at.returns-then-not-length_ok c).Else-not-head_ok)
    (sym c.length_ok.ensures ∙ c.if-not-length_ok.true)))
    (c.refused-then-not-length_ok.ensures a.target)

pub returns : goal.returns
returns c =
    let a = c.args in
    told_as _ _ _ _ c.answered.result
    (c.steps_from.ensures
    ∙ sym (steps_in a.bytes.now (column_of a.column) a.cursor.last a.target (in_range (goal.at.returns c).Else-not-id_ok) (not_back (goal.at.returns c).Else-goes_back) (the_rules (goal.at.returns c).Else-not-head_ok) (whole (goal.at.returns c).Else-not-length_ok)))
    c.answered.ensures
