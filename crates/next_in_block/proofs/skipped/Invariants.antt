use Rattle.format.specs.Kit.{◌*◌}
use Rattle.next_in_block.specs.First.{Below}
use Rattle.next_in_block.proofs.skipped.Given as goal

-- `next_in_block::skipped` meets its contract. Invariant: the entries of the sixteens before k are below r. Assumes nothing.
abbrev pub invariant-loop-k : goal.invariant-loop-k
invariant-loop-k l = Below l.s l.at l.count l.r (16 * l.k)
