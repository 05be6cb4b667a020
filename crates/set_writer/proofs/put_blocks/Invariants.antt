use Rattle.format.specs.SetBytes.{set_block}
use Rattle.section_writer.proofs.Loops.{Written}
use Rattle.set_writer.proofs.put_blocks.Given as goal

-- `set_writer::put_blocks` meets its contract. Assumes nothing.
abbrev pub invariant-loop-run : goal.invariant-loop-run
invariant-loop-run l = Written l.ids set_block l.initial.out l.at l.run-iterator.rest.now l.pos l.out
