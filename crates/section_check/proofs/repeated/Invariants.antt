use Rattle.answers.specs.Replies.{order_of}
use Rattle.section_check.proofs.Turns.{Kept}
use Rattle.section_check.proofs.repeated.Given as goal

-- `section_check::repeated` meets its contract. Assumes nothing.
abbrev pub invariant-loop-i : goal.invariant-loop-i
invariant-loop-i l = Kept (order_of l.order) l.s l.from l.n l.o l.at l.i
