-- `section_writer::blocks_len` meets its contract. Assumes nothing.
use Rattle.format.specs.Kit.{arith}
use Rattle.section_writer.proofs.Steps.{total_more, total_none}
use Rattle.section_writer.proofs.Whole.{total_small}
use Rattle.section_writer.proofs.blocks_len.Goals as goal

pub overflow_add-sum : goal.overflow_add-sum
overflow_add-sum c = omega (arith, c.loop-run.invariant, total_small c.requires.0 c.requires.1, total_more c.in-Some.ensures.steps c.args.p, c.block_bytes-sum.ensures.0)

pub loop-run-preserved : goal.loop-run-preserved
loop-run-preserved c = omega (arith, c.loop-run.invariant, total_more c.in-Some.ensures.steps c.args.p, c.block_bytes-sum.ensures.0)

pub returns : goal.returns
returns c =
    let e = total_none c.args.p c.loop-run.run-iterator.rest.now c.in-None.ensures.steps.0 in
    (omega (arith, c.loop-run.invariant), omega (arith, c.loop-run.invariant, total_small c.requires.0 c.requires.1))
