-- `page::held_in` meets its contract: `find` leaves step 7. Assumes nothing.
use Rattle.format.specs.Kit.{◌≡◌, sym, ap, ◌∙◌, subst, true, leb}
use Rattle.format.specs.Limits.{max_id}
use Rattle.format.specs.Refusals.{Outcome, done}
use Rattle.format.specs.LookUp.{Look}
use Rattle.column.specs.Opened.{column_of}
use Rattle.page.specs.Openings.{look_by}
use Rattle.page.specs.Marks.{marked}
use Rattle.page.specs.Placed.{Holds}
use Rattle.page.proofs.Openings.{above_by, steps_by}
use Rattle.page.proofs.held_in.Goals as goal
use Rattle.page.proofs.held_in.Goals.{After-find-mark, Else-not-id_ok}

in_range : (c : Else-not-id_ok) → leb c.args.id max_id ≡ true
in_range c = sym c.id_ok.ensures ∙ c.if-not-id_ok.false

-- step 7 is left
left : (c : After-find-mark) → let a = c.args in
    marked a.bytes.now (column_of a.column) c.find-mark.result ≡ look_by a.bytes.now (done (column_of a.column)) a.id
left c =
    c.find-mark.ensures.0 ∙ sym (steps_by c.args.bytes.now c.args.id (in_range (goal.at.After-find-mark c).Else-not-id_ok) (column_of c.args.column))

pub returns-then-not-id_ok : goal.returns-then-not-id_ok
returns-then-not-id_ok c =
    let a = c.args in
    subst (λ (x : Outcome Look). Holds x c.refused.result)
    (sym (above_by a.bytes.now a.id _ (sym c.id_ok.ensures ∙ c.if-not-id_ok.true))) c.refused.ensures

pub returns-in-At : goal.returns-in-At
returns-in-At c =
    let a = c.args in
    subst (λ (x : Outcome Look). Holds x c.valued.result)
    (ap (marked a.bytes.now (column_of a.column)) (sym c.in-At.is) ∙ left (goal.at.returns-in-At c).After-find-mark) c.valued.ensures

pub returns-in-Absent : goal.returns-in-Absent
returns-in-Absent c =
    let a = c.args in
    subst (λ (x : Outcome Look). Holds x c.absent.result)
    (ap (marked a.bytes.now (column_of a.column)) (sym c.in-Absent.is) ∙ left (goal.at.returns-in-Absent c).After-find-mark) c.absent.ensures

pub returns-in-Broken : goal.returns-in-Broken
returns-in-Broken c =
    let a = c.args in
    subst (λ (x : Outcome Look). Holds x c.refused-in-Broken.result)
    (ap (marked a.bytes.now (column_of a.column)) (sym c.in-Broken.is) ∙ left (goal.at.returns-in-Broken c).After-find-mark) c.refused-in-Broken.ensures
