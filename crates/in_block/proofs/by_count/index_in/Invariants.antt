use Rattle.in_block.proofs.ByCount.{Probing}
use Rattle.in_block.proofs.by_count.index_in.Given as goal

-- `in_block::by_count::index_in` meets its contract. Assumes nothing.
abbrev pub invariant-loop-n : goal.invariant-loop-n
invariant-loop-n l = Probing l.s l.at l.count l.r l.lo l.hi l.n

abbrev pub decreases-loop-n : goal.decreases-loop-n
decreases-loop-n l = l.n
