use Rattle.format.specs.Ids.{block_of}
use Rattle.section_writer.proofs.Loops.{Written}
use Rattle.section_writer.proofs.put_blocks.Given as goal

-- `section_writer::put_blocks` meets its contract. The loop's invariant is `Written`. Assumes nothing.
abbrev pub invariant-loop-run : goal.invariant-loop-run
invariant-loop-run l = Written l.ids (block_of l.p) l.initial.out l.at l.run-iterator.rest.now l.pos l.out
