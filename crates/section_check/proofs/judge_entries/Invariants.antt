use Rattle.format.specs.Kit.{◌-◌}
use Rattle.format.specs.Judge.{jumps_in}
use Rattle.answers.specs.Replies.{order_of}
use Rattle.section_check.proofs.Trail.{Trail}
use Rattle.section_check.proofs.judge_entries.Given as goal

-- `section_check::judge_entries` meets its contract. The loop's invariant: the runs ahead stand at the loop's place, and the entries that are
-- left to judge are theirs, from entry i on (`Trail`). Assumes nothing.
abbrev pub invariant-loop-at : goal.invariant-loop-at
invariant-loop-at l = Trail (order_of l.order) l.p l.s l.end.at (jumps_in (order_of l.order) l.p l.s) l.at l.o l.i

abbrev pub decreases-loop-at : goal.decreases-loop-at
decreases-loop-at l = l.end.at - l.at
