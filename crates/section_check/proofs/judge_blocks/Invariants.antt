use Rattle.format.specs.Kit.{suc, ◌-◌, ◌*◌, ◌≤◌, length}
use Rattle.format.specs.Limits.{block_places}
use Rattle.format.specs.Judge.{judge_from}
use Rattle.answers.specs.Replies.{order_of}
use Rattle.section_check.specs.Reasons.{Turn}
use Rattle.section_check.proofs.judge_blocks.Given as goal

-- `section_check::judge_blocks` meets its contract. The loop's invariant: the judge from the section's start is the judge from here, with the
-- loop's own place, count and next number, since a turn that goes on passed every test of its blocks. Assumes nothing.
abbrev pub invariant-loop-here : goal.invariant-loop-here
invariant-loop-here l =
    (Turn (judge_from (suc (length l.s)) (order_of l.order) l.p l.s 0 0 0) (order_of l.order) l.p l.s l.here.at l.here.count l.here.next) × (l.here.at ≤ length l.s)
    × (l.here.count ≤ block_places * l.here.next) × (l.here.next ≤ 32766)

abbrev pub decreases-loop-here : goal.decreases-loop-here
decreases-loop-here l = length l.s - l.here.at
