-- `set_writer::put_blocks` meets its contract. Assumes nothing.
use Rattle.format.specs.Kit.{arith, ◌+◌, ◌≤◌, length}
use Rattle.format.specs.SetBytes.{set_block}
use Rattle.block_writer.specs.Part.{run_of}
use Rattle.section_writer.proofs.Steps.{fine_more}
use Rattle.section_writer.proofs.Loops.{block_room, written_more, written_all}
use Rattle.set_writer.proofs.put_blocks.Goals as goal
use Rattle.set_writer.proofs.put_blocks.Goals.{In-Some}

-- the block has room
fits : (c : In-Some) → c.loop-run.pos + length (set_block (run_of c.in-Some.run'.now)) ≤ length c.loop-run.out
fits c = block_room c.loop-run.invariant c.in-Some.ensures.steps c.requires.1

pub put_block-requires : goal.put_block-requires
put_block-requires c =
    ((fine_more c.in-Some.ensures.steps c.loop-run.invariant.fine).0, fits (goal.at.put_block-requires c).In-Some)

pub block_len-pos-requires : goal.block_len-pos-requires
block_len-pos-requires c = (fine_more c.in-Some.ensures.steps c.loop-run.invariant.fine).0

pub overflow_add-pos : goal.overflow_add-pos
overflow_add-pos c =
    omega (arith, c.block_len-pos.ensures.0, fits (goal.at.overflow_add-pos c).In-Some, c.loop-run.invariant.fill.kept)

pub loop-run-preserved : goal.loop-run-preserved
loop-run-preserved c = written_more c.loop-run.invariant c.in-Some.ensures.steps c.block_len-pos.ensures.0 c.put_block.ensures

pub returns : goal.returns
returns c = (written_all c.loop-run.invariant c.in-None.ensures.steps.0).0
