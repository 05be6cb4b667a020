-- `writer::write_own` meets its contract: the planner's plan is what its table begins with. Assumes nothing.
use Rattle.format.specs.Kit.{◌≡◌, sym, ap, ◌∙◌, List, ℕ, ℤ, length, take, take_at}
use Rattle.format.specs.Refusals.{Outcome}
use Rattle.format.specs.Plan.{planned}
use Rattle.format.specs.Writer.{write_planned, write_reply, write_out}
use Rattle.laws.proofs.Plans.{own_planned}
use Rattle.writer.proofs.Written.{passed_few}
use Rattle.writer.proofs.write_own.Goals as goal
use Rattle.writer.proofs.write_own.Goals.{After-plan-t}

-- the part that is lent is the plan
lent : (c : After-plan-t) → let a = c.args in take c.plan-t.result c.plan-t.new.out ≡ planned a.values.now
lent c = ap (take c.plan-t.result) c.plan-t.ensures.3 ∙ take_at _ _ c.plan-t.result (sym c.plan-t.ensures.0)

pub returns : goal.returns
returns c =
    let a = c.args in
    let room : ℕ = length a.out.now in
    let same =
    ap (λ (us : List ℤ). write_planned a.power a.ids.now a.values.now us room) (lent (goal.at.returns c).After-plan-t)
    ∙ own_planned a.power a.ids.now a.values.now room (passed_few a.power a.ids.now a.values.now c.requires) in
    record { replies = c.write_checked.ensures.replies ∙ ap write_reply same; written = c.write_checked.ensures.written ∙ ap (λ (o : Outcome (List ℕ)). write_out o a.out.now) same }

pub slice_bounds-write_checked-end : goal.slice_bounds-write_checked-end
slice_bounds-write_checked-end c = c.plan-t.ensures.0 ∙ sym (ap length (lent (goal.at.slice_bounds-write_checked-end c).After-plan-t))

pub write_checked-requires : goal.write_checked-requires
write_checked-requires c = c.requires
