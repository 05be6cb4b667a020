-- `section_writer::put_blocks` meets its contract. The loop's invariant is `Written`. Assumes nothing.
use Rattle.format.specs.Kit.{sym, ◌∙◌, arith, ◌+◌, ◌≤◌, length}
use Rattle.format.specs.Ids.{runs, block_bytes}
use Rattle.laws.proofs.Section.{length_blocks}
use Rattle.section_writer.proofs.Steps.{fine_more, block_long}
use Rattle.section_writer.proofs.Loops.{block_room, written_more, written_all}
use Rattle.section_writer.proofs.put_blocks.Goals as goal
use Rattle.section_writer.proofs.put_blocks.Goals.{In-Some}

-- the block has room
fits : (c : In-Some) → c.loop-run.pos + block_bytes c.args.p (length c.in-Some.run'.now) ≤ length c.loop-run.out
fits c =
    let h : c.args.p ≤ 16 = omega (arith, c.requires.1.most) in
    let all = length_blocks c.args.p (runs c.args.ids.now) h in
    omega (arith, block_room c.loop-run.invariant c.in-Some.ensures.steps (omega (arith, c.requires.2, all)), block_long c.args.p c.in-Some.run'.now h)

pub put_block-requires : goal.put_block-requires
put_block-requires c = ((fine_more c.in-Some.ensures.steps c.loop-run.invariant.fine).0, c.requires.1, fits (goal.at.put_block-requires c).In-Some)

pub overflow_add-pos : goal.overflow_add-pos
overflow_add-pos c = omega (arith, fits (goal.at.overflow_add-pos c).In-Some, c.block_bytes-pos.ensures.0, c.loop-run.invariant.fill.kept)

pub loop-run-preserved : goal.loop-run-preserved
loop-run-preserved c =
    written_more c.loop-run.invariant c.in-Some.ensures.steps
    (c.block_bytes-pos.ensures.0 ∙ sym (block_long c.args.p c.in-Some.run'.now (omega (arith, c.requires.1.most))))
    c.put_block.ensures

pub returns : goal.returns
returns c =
    let w = written_all c.loop-run.invariant c.in-None.ensures.steps.0 in
    (w.0, omega (arith, w.1, length_blocks c.args.p (runs c.args.ids.now) (omega (arith, c.requires.1.most))))
