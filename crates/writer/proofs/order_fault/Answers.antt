-- `writer::order_fault` meets its contract. Assumes nothing.
use Rattle.format.specs.Kit.{sym}
use Rattle.writer.proofs.order_fault.Goals as goal

pub returns : goal.returns
returns c = sym (c.disordered.ensures c.if-disordered.false)
