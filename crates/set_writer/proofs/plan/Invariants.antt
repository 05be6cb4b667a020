use Rattle.set_writer.proofs.Whole.{Planned}
use Rattle.set_writer.proofs.plan.Given as goal

-- `set_writer::plan` meets its contract. Assumes nothing.
abbrev pub invariant-loop-run : goal.invariant-loop-run
invariant-loop-run l = Planned l.ids l.run-iterator.rest.now l.blocks l.bytes
