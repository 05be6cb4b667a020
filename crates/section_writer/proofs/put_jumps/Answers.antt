-- `section_writer::put_jumps` meets its contract. Assumes nothing.
use Rattle.format.specs.Kit.{◌∙◌, arith, ◌+◌, ◌-◌, ◌*◌, ◌≤◌, length}
use Rattle.section_writer.proofs.Loops.{above, entries_room, jumped_more, last_room, jumped_all}
use Rattle.section_writer.proofs.put_jumps.Goals as goal
use Rattle.section_writer.proofs.put_jumps.Goals.{After-number_of-after}

-- the entries up to the run's block have room
fits : (c : After-number_of-after) → c.loop-run.pos + 8 * (c.number_of-after.result + 1 - c.loop-run.next) ≤ length c.loop-run.out
fits c = entries_room c.loop-run.invariant c.in-Some.ensures.steps c.number_of-after.ensures.0 c.requires.2

pub overflow_sub-n : goal.overflow_sub-n
overflow_sub-n c = omega (arith, above c.loop-run.invariant c.in-Some.ensures.steps c.number_of-after.ensures.0)

pub put_entries-requires : goal.put_entries-requires
put_entries-requires c = fits (goal.at.put_entries-requires c).After-number_of-after

pub overflow_mul-pos : goal.overflow_mul-pos
overflow_mul-pos c = omega (arith, fits (goal.at.overflow_mul-pos c).After-number_of-after, c.loop-run.invariant.fill.kept)

pub overflow_add-pos : goal.overflow_add-pos
overflow_add-pos c = omega (arith, fits (goal.at.overflow_add-pos c).After-number_of-after, c.loop-run.invariant.fill.kept)

pub overflow_add-start : goal.overflow_add-start
overflow_add-start c =
    let v = c.loop-run.invariant in
    omega (arith, v.small, v.next_le, c.block_bytes-start.ensures.1)

pub loop-run-preserved : goal.loop-run-preserved
loop-run-preserved c =
    jumped_more c.loop-run.invariant c.in-Some.ensures.steps c.number_of-after.ensures.0
    c.block_bytes-start.ensures.0 c.block_bytes-start.ensures.1 c.put_entries.ensures

pub put_entry-requires : goal.put_entry-requires
put_entry-requires c = last_room c.loop-run.invariant c.in-None.ensures.steps.0 c.requires.2

pub returns : goal.returns
returns c = c.put_entry.ensures ∙ jumped_all c.loop-run.invariant c.in-None.ensures.steps.0
