use Rattle.block_writer.proofs.Words.{Gathered}
use Rattle.block_writer.proofs.word_of.Given as goal

-- `block_writer::word_of` meets its contract. Assumes nothing.
abbrev pub invariant-loop-m : goal.invariant-loop-m
invariant-loop-m l = Gathered l.part l.from l.k l.bits l.m
