-- `set_writer::plan` meets its contract. Assumes nothing.
use Rattle.format.specs.Kit.{arith}
use Rattle.section_writer.proofs.Steps.{fine_more}
use Rattle.set_writer.proofs.Whole.{few, planned_more, planned_all}
use Rattle.set_writer.proofs.plan.Goals as goal

pub block_len-bytes-requires : goal.block_len-bytes-requires
block_len-bytes-requires c = (fine_more c.in-Some.ensures.steps c.loop-run.invariant.fine).0

pub overflow_add-bytes : goal.overflow_add-bytes
overflow_add-bytes c =
    let v = c.loop-run.invariant in
    omega (arith, c.block_len-bytes.ensures.1, v.small, few c.requires v)

pub overflow_add-blocks : goal.overflow_add-blocks
overflow_add-blocks c = omega (arith, few c.requires c.loop-run.invariant)

pub loop-run-preserved : goal.loop-run-preserved
loop-run-preserved c =
    let n = c.block_len-bytes.ensures in
    planned_more c.requires c.loop-run.invariant c.in-Some.ensures.steps n.0 n.1

pub returns : goal.returns
returns c =
    let v = c.loop-run.invariant in
    let e = planned_all c.requires v c.in-None.ensures.steps.0 in
    let f = few c.requires v in
    (e.0, e.1, f, omega (arith, f, v.small))
