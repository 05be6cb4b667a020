use Rattle.format.specs.Kit.{◌≡◌, ◌+◌}
use Rattle.format.specs.Ids.{runs}
use Rattle.format.specs.Runs.{total_bytes}
use Rattle.section_writer.proofs.blocks_len.Given as goal

-- `section_writer::blocks_len` meets its contract. Assumes nothing.
abbrev pub invariant-loop-run : goal.invariant-loop-run
invariant-loop-run l = l.sum + total_bytes l.p (runs l.run-iterator.rest.now) ≡ total_bytes l.p (runs l.ids)
