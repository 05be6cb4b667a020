-- `next::steps_from` meets its contract. The walk leaves step 7, and the value section answers it. Assumes nothing.
use Rattle.std.specs.Prelude.{Ok, Some}
use Rattle.format.specs.Kit.{◌≡◌, sym, ap, ◌∙◌, eqb-true}
use mir.Facts.{to_z-of_z}
use mir.Syntax.{w64}
use Rattle.format.specs.Refusals.{done}
use Rattle.format.specs.Next.{no_candidate, next_steps}
use Rattle.answers.specs.Replies.{candidate_of}
use Rattle.answers.proofs.PassedOn.{passed_on}
use Rattle.values.specs.Edition.{fetched_of}
use Rattle.column.specs.Opened.{column_of}
use Rattle.lookup.proofs.Whole.{Parted, id_part_lem, value_fits, value_found, value_outside}
use Rattle.next.specs.Blocks.{reached}
use Rattle.next.proofs.Answers.{asked_of, asked_id}
use Rattle.next.proofs.steps_from.Goals as goal
use Rattle.next.proofs.steps_from.Goals.{After-size, After-value_at, After-walk}

parted : (c : After-size) → let a = c.args in
    Parted a.bytes.now (column_of a.column) c.size-start.result c.size.result
parted c = record { starts = c.size-start.ensures; ids = c.size.ensures; whole = eqb-true _ _ c.requires.1 }

-- step 7 is left
left : (c : After-walk) → let a = c.args in
    reached a.bytes.now (column_of a.column) c.walk.result (done no_candidate) ≡ next_steps a.bytes.now (column_of a.column) a.target
left c =
    let a = c.args in
    let q = c.ask_of in
    let col = column_of a.column in
    rw (asked_id col a.target q.result q.ensures.0) at
    (c.walk.ensures.left a.bytes.now col (asked_of col a.target q.result q.ensures.0) (id_part_lem (parted (goal.at.After-walk c).After-size)))

pub returns-in_err-met : goal.returns-in_err-met
returns-in_err-met c =
    ap candidate_of (passed_on c.from_residual.result _ c.from_residual.ensures.1)
    ∙ (rw c.in_err-met.was at (left (goal.at.returns-in_err-met c).After-walk))

pub returns-in_default : goal.returns-in_default
returns-in_default c = rw (c.in_ok-met.was, c.in_default.is) at (left (goal.at.returns-in_default c).After-walk)

-- an id is met
left_at : (c : After-value_at) → let a = c.args in
    next_steps a.bytes.now (column_of a.column) a.target ≡ reached a.bytes.now (column_of a.column) (Ok (Some c.in-Some.met)) (done no_candidate)
left_at c = sym (rw (c.in_ok-met.was, c.in-Some.is) at (left (goal.at.After-value_at c).After-walk))

pub returns-in_default-value_at : goal.returns-in_default-value_at
returns-in_default-value_at c =
    sym (left_at (goal.at.returns-in_default-value_at c).After-value_at ∙ value_outside _ _ c.value_at.result c.value_at.ensures c.in_default-value_at.is)

pub returns : goal.returns
returns c =
    let a = c.args in
    let z = c.in-Some-value_at.value in
    let e = c.in-Some-value_at.is in
    let f = value_fits a.bytes.now (column_of a.column) _ z (sym c.value_at.ensures ∙ ap fetched_of e) in
    rw (to_z-of_z {w = w64} {z = z} (record { sfits = f }))
    (sym (left_at (goal.at.returns c).After-value_at ∙ value_found _ _ c.value_at.result c.value_at.ensures z e))
