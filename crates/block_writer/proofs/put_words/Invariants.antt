use Rattle.block_writer.proofs.Lay.{Lain}
use Rattle.block_writer.proofs.put_words.Given as goal

-- `block_writer::put_words` meets its contract. Assumes nothing.
abbrev pub invariant-loop-t : goal.invariant-loop-t
invariant-loop-t l = Lain l.part l.from l.k l.n l.initial.out l.at l.t l.m l.sum l.out
