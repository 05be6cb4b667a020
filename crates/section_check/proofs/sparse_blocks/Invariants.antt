use Rattle.format.specs.Kit.{◌-◌, ◌*◌, ◌≤◌, length}
use Rattle.format.specs.Limits.{block_places}
use Rattle.format.specs.Refusals.{Outcome}
use Rattle.format.specs.Judge.{Ended}
use Rattle.answers.specs.Replies.{order_of}
use Rattle.section_check.specs.Reasons.{Turn}
use Rattle.section_check.proofs.sparse_blocks.Given as goal

-- `section_check::sparse_blocks` meets its contract. The loop's invariant: whatever is the judge from the start is the judge from here, since a turn
-- that goes on passed every test of its block. Assumes nothing.
abbrev pub invariant-loop-here : goal.invariant-loop-here
invariant-loop-here l =
    ((whole : Outcome Ended) → Turn whole (order_of l.order) l.p l.s l.fn.from.at l.fn.from.count l.fn.from.next → Turn whole (order_of l.order) l.p l.s l.here.at l.here.count l.here.next)
    × (l.here.at ≤ length l.s) × (l.here.count ≤ block_places * l.here.next) × (l.here.next ≤ 32766) × (l.fn.from.at ≤ l.here.at)

abbrev pub decreases-loop-here : goal.decreases-loop-here
decreases-loop-here l = length l.s - l.here.at
