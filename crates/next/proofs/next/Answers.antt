-- `next::next` meets its contract. Assumes nothing.
use Rattle.format.specs.Kit.{◌≡◌, sym, ◌∙◌, true, false, leb, leb-true, le-leb, lt-leb, ltb-true, ltb-false}
use Rattle.format.specs.Limits.{max_id}
use Rattle.format.specs.Refusals.{done}
use Rattle.format.specs.Editions.{editions}
use Rattle.format.specs.Opening.{open_column}
use Rattle.laws.proofs.InTurn.{id_above, gone_back, not_opened, opened}
use Rattle.column.specs.Opened.{column_of}
use Rattle.column.proofs.Facts.{opened_as_lem, refused_as_lem}
use Rattle.lookup.proofs.Calls.{opened_fits}
use Rattle.next.proofs.Answers.{told_as}
use Rattle.next.proofs.next.Goals as goal
use Rattle.next.proofs.next.Goals.{Else-goes_back, Else-not-id_ok, In-Ok, Then-goes_back}

in_range : (c : Else-not-id_ok) → leb c.args.target max_id ≡ true
in_range c = sym c.id_ok.ensures ∙ c.if-not-id_ok.false

not_back : (c : Else-goes_back) → let a = c.args in leb a.cursor.last a.target ≡ true
not_back c =
    let a = c.args in
    le-leb a.cursor.last a.target (ltb-false a.target a.cursor.last (sym c.goes_back.ensures ∙ c.if-goes_back.false))

back : (c : Then-goes_back) → let a = c.args in leb a.cursor.last a.target ≡ false
back c =
    let a = c.args in
    lt-leb a.cursor.last a.target (ltb-true a.target a.cursor.last (sym c.goes_back.ensures ∙ c.if-goes_back.true))

open_at : (c : In-Ok) → let a = c.args in
    open_column editions a.bytes.now ≡ done (column_of c.in-Ok.column)
open_at c =
    let o = c.open in
    opened_as_lem _ o.result c.in-Ok.column o.ensures c.in-Ok.is

pub returns-then-not-id_ok : goal.returns-then-not-id_ok
returns-then-not-id_ok c =
    let a = c.args in
    told_as _ _ _ _ c.refused.result
    (sym (id_above editions a.bytes.now a.cursor.last a.target
    (sym c.id_ok.ensures ∙ c.if-not-id_ok.true)))
    (c.refused.ensures a.target)

pub returns-then-goes_back : goal.returns-then-goes_back
returns-then-goes_back c =
    let a = c.args in
    told_as _ _ _ _ c.refused-then-goes_back.result
    (sym (gone_back editions a.bytes.now a.cursor.last a.target (in_range (goal.at.returns-then-goes_back c).Else-not-id_ok) (back (goal.at.returns-then-goes_back c).Then-goes_back)))
    (c.refused-then-goes_back.ensures a.target)

pub steps_from-requires : goal.steps_from-requires
steps_from-requires c =
    let f = opened_fits _ _ (open_at c) in
    (f.0, f.1, leb-true _ max_id (in_range (goal.at.steps_from-requires c).Else-not-id_ok))

pub returns-in-Err : goal.returns-in-Err
returns-in-Err c =
    let a = c.args in
    let o = c.open in
    told_as _ _ _ _ c.refused-in-Err.result
    (sym (not_opened editions a.bytes.now a.cursor.last a.target (in_range (goal.at.returns-in-Err c).Else-not-id_ok) (not_back (goal.at.returns-in-Err c).Else-goes_back) _ _
    (refused_as_lem a.bytes.now o.result c.in-Err.why o.ensures c.in-Err.is)))
    (c.refused-in-Err.ensures a.target)

pub returns-in-Ok : goal.returns-in-Ok
returns-in-Ok c =
    let a = c.args in
    let col = column_of c.in-Ok.column in
    told_as _ _ _ _ c.answered.result
    (c.steps_from.ensures
    ∙ sym (opened editions a.bytes.now a.cursor.last a.target (in_range (goal.at.returns-in-Ok c).Else-not-id_ok) (not_back (goal.at.returns-in-Ok c).Else-goes_back) col (open_at (goal.at.returns-in-Ok c).In-Ok)))
    c.answered.ensures
