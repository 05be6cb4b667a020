-- `layered_reading::merge` meets its contract. Invariant: what was merged so far (`Going`). Assumes nothing.
use Rattle.format.specs.Kit.{◌≡◌, sym, ap, ◌∙◌, ℕ, ◌+◌, ◌-◌, ◌<◌, pos, get_or, arith}
use mir.Syntax.{w64}
use mir.Facts.{to_z-of_z}
use Rattle.layered_reading.proofs.Growing.{run_on, place_left, under, pair_left, not_there, not_under, put_as}
use Rattle.layered_reading.proofs.Turning.{going_begins, going_ends, takes_correction, takes_run}
use Rattle.layered_reading.proofs.merge.Goals as goal

pub loop-i-init : goal.loop-i-init
loop-i-init c =
    going_begins c.requires.0 c.requires.1 c.requires.2

pub returns-then-m-machine : goal.returns-then-m-machine
returns-then-m-machine c =
    going_ends c.requires.0 c.requires.1 c.requires.2 _ _ _ _ c.loop-i.invariant (λ h k l. omega (arith, c.if-m-machine.true))

pub returns-then-c-correction : goal.returns-then-c-correction
returns-then-c-correction c =
    going_ends c.requires.0 c.requires.1 c.requires.2 _ _ _ _ c.loop-i.invariant (λ h k l. omega (arith, c.if-c-correction.true))

pub offset_bounds-correction_ids-c : goal.offset_bounds-correction_ids-c
offset_bounds-correction_ids-c c =
    let g = c.loop-i.invariant in
    let t = c.loop-i-test.true in
    omega (arith, c.if-c-correction.false, g.in_correction, c.requires.2.in_ids)

pub bounds-correction_ids-c : goal.bounds-correction_ids-c
bounds-correction_ids-c c =
    let g = c.loop-i.invariant in
    let t = c.loop-i-test.true in
    omega (arith, c.if-c-correction.false, g.in_correction, c.requires.2.in_ids)

pub overflow_sub-machine : goal.overflow_sub-machine
overflow_sub-machine c = omega (arith, c.loop-i.invariant.in_machine)

pub overflow_sub-room : goal.overflow_sub-room
overflow_sub-room c = omega (arith, c.loop-i-test.true)

pub overflow_add-end : goal.overflow_add-end
overflow_add-end c =
    let g = c.loop-i.invariant in
    let t = c.loop-i-test.true in
    let e = c.min.ensures in
    omega (arith, e, t, g.in_machine)

pub fours-four-requires : goal.fours-four-requires
fours-four-requires c =
    let g = c.loop-i.invariant in
    let t = c.loop-i-test.true in
    let e = c.min.ensures in
    record {
      from = omega (arith, e, t, g.in_machine);
      in_buffer = omega (arith, e, t, g.in_machine, c.requires.1.in_ids);
      in_buffer_values = omega (arith, e, t, g.in_machine, c.requires.1.in_values);
      in_ids = omega (arith, e, t, g.in_machine, g.long_ids, c.requires.0.in_ids);
      in_values = omega (arith, e, t, g.in_machine, g.long_values, c.requires.0.in_values);
      in_columns = omega (arith, e, t, g.in_machine, g.long_columns, c.requires.0.in_columns);
    }

pub overflow_sub-four : goal.overflow_sub-four
overflow_sub-four c = omega (arith, c.fours-four.ensures.from)

pub overflow_add-i : goal.overflow_add-i
overflow_add-i c =
    let g = c.loop-i.invariant in
    let t = c.loop-i-test.true in
    let e = c.min.ensures in
    let q = c.fours-four.ensures in
    omega (arith, e, t, g.in_machine, q.from, q.upto)

pub ones-k-requires : goal.ones-k-requires
ones-k-requires c =
    let g = c.loop-i.invariant in
    let t = c.loop-i-test.true in
    let e = c.min.ensures in
    let b : c.loop-i.c < c.args.correction.count = omega (arith, c.if-c-correction.false, g.in_correction) in
    let f = takes_run c.requires.0 c.requires.1 c.requires.2 g b (omega (arith, e, t, g.in_machine)) (omega (arith, e, g.in_machine)) c.fours-four.ensures in
    let q = c.fours-four.ensures in
    record {
      from = omega (arith, e, t, g.in_machine, q.from, q.upto);
      in_buffer = omega (arith, e, t, g.in_machine, q.from, q.upto, c.requires.1.in_ids);
      in_buffer_values = omega (arith, e, t, g.in_machine, q.from, q.upto, c.requires.1.in_values);
      in_ids = omega (arith, e, t, g.in_machine, q.from, q.upto, f.long_ids, c.requires.0.in_ids);
      in_values = omega (arith, e, t, g.in_machine, q.from, q.upto, f.long_values, c.requires.0.in_values);
      in_columns = omega (arith, e, t, g.in_machine, q.from, q.upto, f.long_columns, c.requires.0.in_columns);
    }

pub target_after-target-requires : goal.target_after-target-requires
target_after-target-requires c =
    let g = c.loop-i.invariant in
    let t = c.loop-i-test.true in
    let e = c.min.ensures in
    let q = c.fours-four.ensures in
    let o = c.ones-k.ensures in
    (omega (arith, q.from, o.0.from), omega (arith, e, g.in_machine, o.0.upto, c.requires.1.in_ids))

pub overflow_sub-i : goal.overflow_sub-i
overflow_sub-i c =
    omega (arith, c.fours-four.ensures.from, c.ones-k.ensures.0.from)

pub overflow_add-i-in-loop-i : goal.overflow_add-i-in-loop-i
overflow_add-i-in-loop-i c =
    let g = c.loop-i.invariant in
    let t = c.loop-i-test.true in
    let e = c.min.ensures in
    let q = c.fours-four.ensures in
    let o = c.ones-k.ensures in
    omega (arith, e, t, g.in_machine, q.from, q.upto, o.0.from, o.0.upto)

pub loop-i-smaller-then-k-end : goal.loop-i-smaller-then-k-end
loop-i-smaller-then-k-end c =
    let g = c.loop-i.invariant in
    let t = c.loop-i-test.true in
    let e = c.min.ensures in
    let q = c.fours-four.ensures in
    let o = c.ones-k.ensures in
    omega (arith, e, t, g.in_machine, q.from, q.upto, o.0.from, o.0.upto, c.if-m-machine.false, c.if-k-end.true)

pub loop-i-preserved-then-k-end : goal.loop-i-preserved-then-k-end
loop-i-preserved-then-k-end c =
    let g = c.loop-i.invariant in
    let t = c.loop-i-test.true in
    let e = c.min.ensures in
    let b : c.loop-i.c < c.args.correction.count = omega (arith, c.if-c-correction.false, g.in_correction) in
    let f = takes_run c.requires.0 c.requires.1 c.requires.2 g b (omega (arith, e, t, g.in_machine)) (omega (arith, e, g.in_machine)) c.fours-four.ensures in
    let o = c.ones-k.ensures in
    let h = takes_run c.requires.0 c.requires.1 c.requires.2 f b (omega (arith, e, t, g.in_machine, c.fours-four.ensures.from, c.fours-four.ensures.upto)) (omega (arith, e, g.in_machine)) o.0 in
    let q = c.fours-four.ensures in
    let ei : c.loop-i.i + (c.fours-four.result - c.loop-i.m) + (c.ones-k.result - c.fours-four.result) ≡ c.loop-i.i + (c.ones-k.result - c.loop-i.m) =
    omega (arith, q.from, o.0.from) in
    let et =
    run_on c.loop-i.target c.loop-i.m c.fours-four.result c.ones-k.result c.args.machine_ids.now q.from o.0.from
    ∙ sym c.target_after-target.ensures in
    let w = rw (ei, et) at h in
    w

pub offset_bounds-machine_ids-k : goal.offset_bounds-machine_ids-k
offset_bounds-machine_ids-k c =
    let g = c.loop-i.invariant in
    let t = c.loop-i-test.true in
    let e = c.min.ensures in
    let q = c.fours-four.ensures in
    let o = c.ones-k.ensures in
    omega (arith, e, t, g.in_machine, q.from, q.upto, o.0.from, o.0.upto, c.if-k-end.false, c.requires.1.in_ids)

pub bounds-machine_ids-k : goal.bounds-machine_ids-k
bounds-machine_ids-k c =
    let g = c.loop-i.invariant in
    let t = c.loop-i-test.true in
    let e = c.min.ensures in
    let q = c.fours-four.ensures in
    let o = c.ones-k.ensures in
    omega (arith, e, t, g.in_machine, q.from, q.upto, o.0.from, o.0.upto, c.if-k-end.false, c.requires.1.in_ids)

pub offset_bounds-correction_values-c : goal.offset_bounds-correction_values-c
offset_bounds-correction_values-c c =
    let g = c.loop-i.invariant in
    let t = c.loop-i-test.true in
    omega (arith, c.if-c-correction.false, g.in_correction, c.requires.2.in_values)

pub bounds-correction_values-c : goal.bounds-correction_values-c
bounds-correction_values-c c =
    let g = c.loop-i.invariant in
    let t = c.loop-i-test.true in
    omega (arith, c.if-c-correction.false, g.in_correction, c.requires.2.in_values)

pub put-requires : goal.put-requires
put-requires c =
    let g = c.loop-i.invariant in
    let t = c.loop-i-test.true in
    let e = c.min.ensures in
    let b : c.loop-i.c < c.args.correction.count = omega (arith, c.if-c-correction.false, g.in_correction) in
    let f = takes_run c.requires.0 c.requires.1 c.requires.2 g b (omega (arith, e, t, g.in_machine)) (omega (arith, e, g.in_machine)) c.fours-four.ensures in
    let o = c.ones-k.ensures in
    let h = takes_run c.requires.0 c.requires.1 c.requires.2 f b (omega (arith, e, t, g.in_machine, c.fours-four.ensures.from, c.fours-four.ensures.upto)) (omega (arith, e, g.in_machine)) o.0 in
    let q = c.fours-four.ensures in
    let ei : c.loop-i.i + (c.fours-four.result - c.loop-i.m) + (c.ones-k.result - c.fours-four.result) ≡ c.loop-i.i + (c.ones-k.result - c.loop-i.m) =
    omega (arith, q.from, o.0.from) in
    let et =
    run_on c.loop-i.target c.loop-i.m c.fours-four.result c.ones-k.result c.args.machine_ids.now q.from o.0.from
    ∙ sym c.target_after-target.ensures in
    let w = rw (ei, et) at h in
    let left = place_left c.args.room c.loop-i.i c.loop-i.m c.args.machine.count c.min.result c.ones-k.result e t
    (omega (arith, q.from, o.0.from)) o.0.upto c.if-k-end.false in (
      under _ _ _ _ left c.requires.0.in_ids w.long_ids,
      under _ _ _ _ left c.requires.0.in_values w.long_values,
      under _ _ _ _ left c.requires.0.in_columns w.long_columns,
    )

pub past-m-requires : goal.past-m-requires
past-m-requires c =
    let g = c.loop-i.invariant in
    let t = c.loop-i-test.true in
    let e = c.min.ensures in
    let q = c.fours-four.ensures in
    let o = c.ones-k.ensures in
    omega (arith, e, t, g.in_machine, q.from, q.upto, o.0.from, o.0.upto, c.requires.1.in_ids, c.if-k-end.false)

pub overflow_add-c : goal.overflow_add-c
overflow_add-c c =
    let g = c.loop-i.invariant in
    let t = c.loop-i-test.true in
    omega (arith, c.if-c-correction.false, g.in_correction, c.requires.2.in_ids)

pub overflow_add-i-in-loop-i-2 : goal.overflow_add-i-in-loop-i-2
overflow_add-i-in-loop-i-2 c =
    let g = c.loop-i.invariant in
    let t = c.loop-i-test.true in
    let e = c.min.ensures in
    let q = c.fours-four.ensures in
    let o = c.ones-k.ensures in
    omega (arith, e, t, g.in_machine, q.from, q.upto, o.0.from, o.0.upto, c.if-k-end.false)

pub loop-i-smaller : goal.loop-i-smaller
loop-i-smaller c =
    let g = c.loop-i.invariant in
    let t = c.loop-i-test.true in
    let e = c.min.ensures in
    let q = c.fours-four.ensures in
    let o = c.ones-k.ensures in
    omega (arith, e, t, g.in_machine, q.from, q.upto, o.0.from, o.0.upto, c.if-k-end.false)

pub loop-i-preserved : goal.loop-i-preserved
loop-i-preserved c =
    let g = c.loop-i.invariant in
    let t = c.loop-i-test.true in
    let e = c.min.ensures in
    let b : c.loop-i.c < c.args.correction.count = omega (arith, c.if-c-correction.false, g.in_correction) in
    let f = takes_run c.requires.0 c.requires.1 c.requires.2 g b (omega (arith, e, t, g.in_machine)) (omega (arith, e, g.in_machine)) c.fours-four.ensures in
    let o = c.ones-k.ensures in
    let h = takes_run c.requires.0 c.requires.1 c.requires.2 f b (omega (arith, e, t, g.in_machine, c.fours-four.ensures.from, c.fours-four.ensures.upto)) (omega (arith, e, g.in_machine)) o.0 in
    let q = c.fours-four.ensures in
    let ei : c.loop-i.i + (c.fours-four.result - c.loop-i.m) + (c.ones-k.result - c.fours-four.result) ≡ c.loop-i.i + (c.ones-k.result - c.loop-i.m) =
    omega (arith, q.from, o.0.from) in
    let et =
    run_on c.loop-i.target c.loop-i.m c.fours-four.result c.ones-k.result c.args.machine_ids.now q.from o.0.from
    ∙ sym c.target_after-target.ensures in
    let w = rw (ei, et) at h in
    let left = place_left c.args.room c.loop-i.i c.loop-i.m c.args.machine.count c.min.result c.ones-k.result e t
    (omega (arith, q.from, o.0.from)) o.0.upto c.if-k-end.false in
    let d = c.put.ensures in
    let z = to_z-of_z {w = w64} {z = get_or c.args.correction_values.now c.loop-i.c (pos 0)} (record { sfits = c.v-1.given }) in
    takes_correction c.requires.0 c.requires.1 c.requires.2 w left
    (pair_left c.args.room c.loop-i.i c.loop-i.m c.args.machine.count c.min.result c.ones-k.result e g.in_machine o.0.upto c.if-k-end.false) b _ _ _ _ _
    (λ n. not_under _ _ (o.1 (not_there _ _ o.0.upto c.if-k-end.false)) n) c.past-m.ensures
    (ap (λ (n : ℕ). n + 1) c.wide32-target.ensures.0)
    (put_as z d)

pub returns : goal.returns
returns c =
    going_ends c.requires.0 c.requires.1 c.requires.2 _ _ _ _ c.loop-i.invariant (λ h k l. omega (arith, c.loop-i-test.false))

pub shape_of-ids-then-m-machine : goal.shape_of-ids-then-m-machine
shape_of-ids-then-m-machine c = c.loop-i.invariant.long_ids

pub shape_of-values-then-m-machine : goal.shape_of-values-then-m-machine
shape_of-values-then-m-machine c = c.loop-i.invariant.long_values

pub shape_of-columns-then-m-machine : goal.shape_of-columns-then-m-machine
shape_of-columns-then-m-machine c = c.loop-i.invariant.long_columns

pub shape_of-ids-then-c-correction : goal.shape_of-ids-then-c-correction
shape_of-ids-then-c-correction c = c.loop-i.invariant.long_ids

pub shape_of-values-then-c-correction : goal.shape_of-values-then-c-correction
shape_of-values-then-c-correction c = c.loop-i.invariant.long_values

pub shape_of-columns-then-c-correction : goal.shape_of-columns-then-c-correction
shape_of-columns-then-c-correction c = c.loop-i.invariant.long_columns

pub overflow_add-target : goal.overflow_add-target
overflow_add-target c = omega (arith, c.wide32-target.ensures.1)

pub shape_of-ids : goal.shape_of-ids
shape_of-ids c = c.loop-i.invariant.long_ids

pub shape_of-values : goal.shape_of-values
shape_of-values c = c.loop-i.invariant.long_values

pub shape_of-columns : goal.shape_of-columns
shape_of-columns c = c.loop-i.invariant.long_columns
