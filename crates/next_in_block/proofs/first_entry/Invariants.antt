use Rattle.next_in_block.specs.First.{Below}
use Rattle.next_in_block.proofs.first_entry.Given as goal

-- `next_in_block::first_entry` meets its contract. Invariant: the entries before i are below r. Assumes nothing.
abbrev pub invariant-loop-i : goal.invariant-loop-i
invariant-loop-i l = Below l.s l.at l.count l.r l.i
