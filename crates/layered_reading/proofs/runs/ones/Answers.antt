-- `layered_reading::runs::ones` meets its contract. Assumes nothing.
use Rattle.format.specs.Kit.{◌≡◌, refl, arith, pos, get_or}
use mir.Syntax.{w64}
use mir.Facts.{to_z-of_z}
use Rattle.layered_reading.proofs.Growing.{run_begins, run_long_ids, run_long_values, run_long_columns, run_one, put_as}
use Rattle.layered_reading.proofs.runs.ones.Goals as goal

pub offset_bounds-machine_ids-k : goal.offset_bounds-machine_ids-k
offset_bounds-machine_ids-k c =
    omega (arith, c.loop-k-test.true, c.loop-k.invariant.from, c.loop-k.invariant.upto, c.requires.in_buffer, c.requires.in_buffer_values)

pub bounds-machine_ids-k : goal.bounds-machine_ids-k
bounds-machine_ids-k c =
    omega (arith, c.loop-k-test.true, c.loop-k.invariant.from, c.loop-k.invariant.upto, c.requires.in_buffer, c.requires.in_buffer_values)

pub shape_of-ids-then-id-y : goal.shape_of-ids-then-id-y
shape_of-ids-then-id-y c = run_long_ids c.requires c.loop-k.invariant

pub shape_of-values-then-id-y : goal.shape_of-values-then-id-y
shape_of-values-then-id-y c =
    run_long_values c.requires c.loop-k.invariant

pub shape_of-columns-then-id-y : goal.shape_of-columns-then-id-y
shape_of-columns-then-id-y c =
    run_long_columns c.requires c.loop-k.invariant

pub returns-then-id-y : goal.returns-then-id-y
returns-then-id-y c = (c.loop-k.invariant, λ h. omega (arith, c.if-id-y.true))

pub offset_bounds-machine_values-k : goal.offset_bounds-machine_values-k
offset_bounds-machine_values-k c =
    omega (arith, c.loop-k-test.true, c.loop-k.invariant.from, c.loop-k.invariant.upto, c.requires.in_buffer, c.requires.in_buffer_values)

pub bounds-machine_values-k : goal.bounds-machine_values-k
bounds-machine_values-k c =
    omega (arith, c.loop-k-test.true, c.loop-k.invariant.from, c.loop-k.invariant.upto, c.requires.in_buffer, c.requires.in_buffer_values)

pub put-requires : goal.put-requires
put-requires c =
    let r = c.requires in
    let v = c.loop-k.invariant in
    let t = c.loop-k-test.true in (
      omega (arith, t, v.from, v.upto, r.in_ids, run_long_ids r v),
      omega (arith, t, v.from, v.upto, r.in_values, run_long_values r v),
      omega (arith, t, v.from, v.upto, r.in_columns, run_long_columns r v),
    )

pub loop-k-preserved : goal.loop-k-preserved
loop-k-preserved c =
    let r = c.requires in
    let l = c.loop-k in
    let z = to_z-of_z {w = w64} {z = get_or c.args.machine_values.now l.k (pos 0)} (record { sfits = c.v-1.given }) in
    run_one r l.invariant refl c.loop-k-test.true (omega (arith, c.if-id-y.false)) (put_as z c.put.ensures)

pub shape_of-ids : goal.shape_of-ids
shape_of-ids c = run_long_ids c.requires c.loop-k.invariant

pub shape_of-values : goal.shape_of-values
shape_of-values c = run_long_values c.requires c.loop-k.invariant

pub shape_of-columns : goal.shape_of-columns
shape_of-columns c = run_long_columns c.requires c.loop-k.invariant

pub loop-k-init : goal.loop-k-init
loop-k-init c = run_begins c.requires

pub returns : goal.returns
returns c =
    let e : c.loop-k.k ≡ c.args.end = omega (arith, c.loop-k-test.false, c.loop-k.invariant.upto) in
    (rw e at c.loop-k.invariant, λ h. absurd (omega arith))
