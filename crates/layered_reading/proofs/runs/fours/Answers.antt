-- `layered_reading::runs::fours` meets its contract. Assumes nothing.
use Rattle.format.specs.Kit.{arith}
use Rattle.layered_reading.proofs.Growing.{run_begins, run_long_ids, run_long_values, run_long_columns, run_four}
use Rattle.layered_reading.proofs.runs.fours.Goals as goal

pub overflow_add-k : goal.overflow_add-k
overflow_add-k c =
    omega (arith, c.loop-k-test.true, c.loop-k.invariant.0.from, c.loop-k.invariant.0.upto, c.requires.in_buffer, c.requires.in_buffer_values)

pub offset_bounds-machine_ids-k : goal.offset_bounds-machine_ids-k
offset_bounds-machine_ids-k c =
    omega (arith, c.loop-k-test.true, c.loop-k.invariant.0.from, c.loop-k.invariant.0.upto, c.requires.in_buffer, c.requires.in_buffer_values)

pub bounds-machine_ids-k : goal.bounds-machine_ids-k
bounds-machine_ids-k c =
    omega (arith, c.loop-k-test.true, c.loop-k.invariant.0.from, c.loop-k.invariant.0.upto, c.requires.in_buffer, c.requires.in_buffer_values)

pub shape_of-ids-then-id-machine_ids : goal.shape_of-ids-then-id-machine_ids
shape_of-ids-then-id-machine_ids c = run_long_ids c.requires c.loop-k.invariant.0

pub shape_of-values-then-id-machine_ids : goal.shape_of-values-then-id-machine_ids
shape_of-values-then-id-machine_ids c =
    run_long_values c.requires c.loop-k.invariant.0

pub shape_of-columns-then-id-machine_ids : goal.shape_of-columns-then-id-machine_ids
shape_of-columns-then-id-machine_ids c =
    run_long_columns c.requires c.loop-k.invariant.0

pub put_four-requires : goal.put_four-requires
put_four-requires c =
    let r = c.requires in
    let v = c.loop-k.invariant in
    let t = c.loop-k-test.true in
    (omega (arith, t, v.1, v.0.from, v.0.upto, r.in_ids, run_long_ids r v.0), omega (arith, t, v.0.upto, r.in_buffer))

pub put_four-requires-in-loop-k : goal.put_four-requires-in-loop-k
put_four-requires-in-loop-k c =
    let r = c.requires in
    let v = c.loop-k.invariant in
    let t = c.loop-k-test.true in
    (omega (arith, t, v.1, v.0.from, v.0.upto, r.in_values, run_long_values r v.0), omega (arith, t, v.0.upto, r.in_buffer_values))

pub put_four-requires-in-loop-k-2 : goal.put_four-requires-in-loop-k-2
put_four-requires-in-loop-k-2 c =
    let r = c.requires in
    let v = c.loop-k.invariant in
    (omega (arith, c.loop-k-test.true, v.1, v.0.from, v.0.upto, r.in_columns, run_long_columns r v.0, r.in_buffer, r.in_buffer_values), omega arith)

pub overflow_add-k-in-loop-k : goal.overflow_add-k-in-loop-k
overflow_add-k-in-loop-k c =
    omega (arith, c.loop-k-test.true, c.loop-k.invariant.0.from, c.loop-k.invariant.0.upto, c.requires.in_buffer, c.requires.in_buffer_values)

pub overflow_add-p : goal.overflow_add-p
overflow_add-p c =
    let r = c.requires in
    let v = c.loop-k.invariant in
    omega (arith, c.loop-k-test.true, v.1, v.0.from, v.0.upto, r.in_ids, run_long_ids r v.0, r.in_buffer, r.in_buffer_values)

pub loop-k-smaller : goal.loop-k-smaller
loop-k-smaller c =
    omega (arith, c.loop-k-test.true)

pub loop-k-preserved : goal.loop-k-preserved
loop-k-preserved c =
    let r = c.requires in
    let v = c.loop-k.invariant in
    let t = c.loop-k-test.true in (
      run_four r v.0 v.1 (omega (arith, t, v.0.upto)) (omega (arith, c.if-id-machine_ids.false)) c.put_four.ensures c.put_four-in-loop-k.ensures c.put_four-in-loop-k-2.ensures,
      omega (arith, v.1, v.0.from),
    )

pub shape_of-ids : goal.shape_of-ids
shape_of-ids c = run_long_ids c.requires c.loop-k.invariant.0

pub shape_of-values : goal.shape_of-values
shape_of-values c = run_long_values c.requires c.loop-k.invariant.0

pub shape_of-columns : goal.shape_of-columns
shape_of-columns c = run_long_columns c.requires c.loop-k.invariant.0

pub loop-k-init : goal.loop-k-init
loop-k-init c = (run_begins c.requires, omega arith)

pub overflow_sub-end : goal.overflow_sub-end
overflow_sub-end c = omega (arith, c.loop-k.invariant.0.upto)

pub returns-then-id-machine_ids : goal.returns-then-id-machine_ids
returns-then-id-machine_ids c = c.loop-k.invariant.0

pub returns : goal.returns
returns c = c.loop-k.invariant.0
