-- `page::runs::held_next` meets its contract: `mark_next` leaves step 7. Assumes nothing.
use Rattle.format.specs.Kit.{◌≡◌, sym, ap, ◌∙◌, subst, le-leb}
use Rattle.format.specs.Refusals.{Outcome, done}
use Rattle.format.specs.Limits.{max_id}
use Rattle.format.specs.LookUp.{Look}
use Rattle.column.specs.Opened.{column_of}
use Rattle.page.specs.Openings.{look_by}
use Rattle.page.specs.Marks.{marked}
use Rattle.page.specs.Placed.{Holds}
use Rattle.page.proofs.Openings.{steps_by}
use Rattle.page.proofs.runs.held_next.Goals as goal
use Rattle.page.proofs.runs.held_next.Goals.{After-mark_next-mark}

-- step 7 is left
left : (c : After-mark_next-mark) → let a = c.args in
    marked a.bytes.now (column_of a.column) c.mark_next-mark.result ≡ look_by a.bytes.now (done (column_of a.column)) a.id
left c =
    c.mark_next-mark.ensures.0
    ∙ sym (steps_by c.args.bytes.now c.args.id (le-leb c.args.id max_id c.requires.1.in_limit) (column_of c.args.column))

pub returns-in-At : goal.returns-in-At
returns-in-At c =
    let a = c.args in
    subst (λ (x : Outcome Look). Holds x c.plain_valued.result)
    (ap (marked a.bytes.now (column_of a.column)) (sym c.in-At.is) ∙ left (goal.at.returns-in-At c).After-mark_next-mark) c.plain_valued.ensures

pub returns-in-Absent : goal.returns-in-Absent
returns-in-Absent c =
    let a = c.args in
    subst (λ (x : Outcome Look). Holds x c.absent.result)
    (ap (marked a.bytes.now (column_of a.column)) (sym c.in-Absent.is) ∙ left (goal.at.returns-in-Absent c).After-mark_next-mark) c.absent.ensures

pub returns-in-Broken : goal.returns-in-Broken
returns-in-Broken c =
    let a = c.args in
    subst (λ (x : Outcome Look). Holds x c.refused.result)
    (ap (marked a.bytes.now (column_of a.column)) (sym c.in-Broken.is) ∙ left (goal.at.returns-in-Broken c).After-mark_next-mark) c.refused.ensures
