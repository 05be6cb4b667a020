-- `layered_reading::layered_steps` meets its contract. Invariant: the part that was read, and what the buffers hold (`Looping`). Assumes nothing.
use Rattle.format.specs.Kit.{◌≡◌, refl, sym, ap, ◌∙◌, ◌≤◌, ◌<◌, min, length, arith, rules}
use Rattle.column.specs.Opened.{column_of}
use Rattle.layered_reading.proofs.Turns.{stays}
use Rattle.layered_reading.proofs.Looping.{loose_begins, spent_none, has_more, correction_stops, machine_left, machine_stops, correction_left}
use Rattle.layered_reading.proofs.Looping.{fills_up, loops}
use Rattle.layered_reading.proofs.layered_steps.Goals as goal
use Rattle.layered_reading.proofs.layered_steps.Goals.{After-min-room}

-- the room is the least of the three lengths
room_is : (c : After-min-room) → let a = c.args in
    c.min-room.result ≡ min (length a.columns.now) (min (length a.ids.now) (length a.values.now))
room_is c = let a = c.args in c.min-room.ensures ∙ ap (min (length a.columns.now)) c.min.ensures

pub loop-upper-init : goal.loop-upper-init
loop-upper-init c =
    rw c.wide32-target.ensures.0
    (record {
      reads = stays _ _ _ _ _ _ _ (omega arith);
      lower = loose_begins _ _ _ _ _ _ refl refl refl c.requires.2;
      upper = loose_begins _ _ _ _ _ _ refl refl refl c.requires.2;
      long_mi = search rules;
      long_mv = search rules;
      long_ci = search rules;
      long_cv = search rules;
    })

pub renew-got-requires : goal.renew-got-requires
renew-got-requires c =
    let v = c.loop-upper.invariant in
    let k = c.requires.1 in
    let w : c.wanted.result ≤ 512 = omega (arith, c.wanted.ensures.0, c.min-want.ensures) in
    (record { rules = k.rules; whole = k.whole; in_ids = omega (arith, w, v.long_ci); in_values = omega (arith, w, v.long_cv) }, v.upper)

pub returns-in-Err : goal.returns-in-Err
returns-in-Err c =
    let a = c.args in
    let e = room_is (goal.at.returns-in-Err c).After-min-room in
    rw (← e)
    (correction_stops a.machine.now (column_of a.machine_column) a.correction.now (column_of a.correction_column) c.loop-upper.invariant.reads (omega (arith, e)) (omega (arith, e)) (omega (arith, e)) c.in-Err.why _
    (rw c.in-Err.is at c.renew-got.ensures) c.stopped.ensures)

pub rest-requires : goal.rest-requires
rest-requires c =
    let e = room_is (goal.at.rest-requires c).After-min-room in
    let d = c.loop-upper.invariant.reads in
    let k = c.requires.0 in (
      record {
        upto = d.most;
        in_ids = omega (arith, e, d.in_ids.kept);
        in_values = omega (arith, e, d.in_values.kept);
        in_columns = omega (arith, e, d.in_columns.kept);
      },
      k.rules,
      k.whole,
    )

pub returns-then-spent : goal.returns-then-spent
returns-then-spent c =
    let a = c.args in
    let e = room_is (goal.at.returns-then-spent c).After-min-room in
    let uf = rw c.in-Ok.is at c.renew-got.ensures in
    rw (← e)
    (machine_left a.machine.now (column_of a.machine_column) a.correction.now (column_of a.correction_column) c.loop-upper.invariant.reads (omega (arith, e)) (omega (arith, e)) (omega (arith, e)) c.rest.result _ _ _
    (spent_none uf (sym c.spent.ensures ∙ c.if-spent.true)) c.rest.ensures)

pub renew-got-requires-in-loop-upper : goal.renew-got-requires-in-loop-upper
renew-got-requires-in-loop-upper c =
    let v = c.loop-upper.invariant in
    let k = c.requires.0 in
    let w : c.min-want.result ≤ 512
    = omega (arith, c.min-want.ensures) in
    (record { rules = k.rules; whole = k.whole; in_ids = omega (arith, w, v.long_mi); in_values = omega (arith, w, v.long_mv) }, v.lower)

pub returns-in-Err-got : goal.returns-in-Err-got
returns-in-Err-got c =
    let a = c.args in
    let e = room_is (goal.at.returns-in-Err-got c).After-min-room in
    let uf = rw c.in-Ok.is at c.renew-got.ensures in
    rw (← e)
    (machine_stops a.machine.now (column_of a.machine_column) a.correction.now (column_of a.correction_column) c.loop-upper.invariant.reads (omega (arith, e)) (omega (arith, e)) (omega (arith, e)) uf c.in-Err-got.why _
    (rw c.in-Err-got.is at c.renew-got-in-loop-upper.ensures) c.stopped-in-Err-got.ensures)

pub rest-requires-then-spent-2 : goal.rest-requires-then-spent-2
rest-requires-then-spent-2 c =
    let e = room_is (goal.at.rest-requires-then-spent-2 c).After-min-room in
    let d = c.loop-upper.invariant.reads in
    let k = c.requires.1 in (
      record {
        upto = d.most;
        in_ids = omega (arith, e, d.in_ids.kept);
        in_values = omega (arith, e, d.in_values.kept);
        in_columns = omega (arith, e, d.in_columns.kept);
      },
      k.rules,
      k.whole,
    )

pub returns-then-spent-2 : goal.returns-then-spent-2
returns-then-spent-2 c =
    let a = c.args in
    let e = room_is (goal.at.returns-then-spent-2 c).After-min-room in
    let uf = rw c.in-Ok.is at c.renew-got.ensures in
    let lf = rw c.in-Ok-got.is at c.renew-got-in-loop-upper.ensures in
    rw (← e)
    (correction_left a.machine.now (column_of a.machine_column) a.correction.now (column_of a.correction_column) c.loop-upper.invariant.reads (omega (arith, e))
    (omega (arith, e)) (omega (arith, e)) uf c.rest-then-spent-2.result _ _ _
    (spent_none lf (sym c.spent-in-loop-upper.ensures ∙ c.if-spent-2.true)) c.rest-then-spent-2.ensures)

pub returns-then-i-room : goal.returns-then-i-room
returns-then-i-room c =
    let a = c.args in
    let e = room_is (goal.at.returns-then-i-room c).After-min-room in
    let uf = rw c.in-Ok.is at c.renew-got.ensures in
    let lf = rw c.in-Ok-got.is at c.renew-got-in-loop-upper.ensures in
    rw (← e)
    (fills_up a.machine.now (column_of a.machine_column) a.correction.now (column_of a.correction_column) c.loop-upper.invariant.reads (omega (arith, e)) (omega (arith, e)) (omega (arith, e)) uf lf _ c.long.ensures c.if-i-room.true
    (sym c.spent.ensures ∙ c.if-spent.false))

pub merge-met-requires : goal.merge-met-requires
merge-met-requires c =
    let e = room_is (goal.at.merge-met-requires c).After-min-room in
    let d = c.loop-upper.invariant.reads in
    let uf = rw c.in-Ok.is at c.renew-got.ensures in
    let lf = rw c.in-Ok-got.is at c.renew-got-in-loop-upper.ensures in (
      record {
        upto = d.most;
        in_ids = omega (arith, e, d.in_ids.kept);
        in_values = omega (arith, e, d.in_values.kept);
        in_columns = omega (arith, e, d.in_columns.kept);
      },
      lf.within,
      uf.within,
    )

pub loop-upper-smaller : goal.loop-upper-smaller
loop-upper-smaller c =
    let l = c.loop-upper in
    let uf = rw c.in-Ok.is at c.renew-got.ensures in
    let lf = rw c.in-Ok-got.is at c.renew-got-in-loop-upper.ensures in
    let h : l.i < c.min-room.result = omega (
      arith,
      c.if-i-room.false,
      l.invariant.reads.most,
    ) in
    let w : 0 < c.min-want.result = omega (
      arith,
      c.min-want.ensures,
      h,
    ) in
    let u = c.wanted.ensures.1 w in
    omega (
      arith,
      c.merge-met.ensures.goes_on h (has_more lf (sym c.spent-in-loop-upper.ensures ∙ c.if-spent-2.false) w) (has_more uf (sym c.spent.ensures ∙ c.if-spent.false) u),
      c.merge-met.ensures.upto,
    )

pub loop-upper-preserved : goal.loop-upper-preserved
loop-upper-preserved c =
    let a = c.args in
    let e = room_is (goal.at.loop-upper-preserved c).After-min-room in
    let v = c.loop-upper.invariant in
    let uf = rw c.in-Ok.is at c.renew-got.ensures in
    let lf = rw c.in-Ok-got.is at c.renew-got-in-loop-upper.ensures in
    loops a.machine.now (column_of a.machine_column) a.correction.now (column_of a.correction_column) v.reads (omega (arith, e))
    (omega (arith, e)) (omega (arith, e)) uf lf c.merge-met.result _ _ _ _ _ c.merge-met.ensures refl refl
    (c.renew-got-in-loop-upper.auto.ids ∙ v.long_mi) (c.renew-got-in-loop-upper.auto.values ∙ v.long_mv) (c.renew-got.auto.ids ∙ v.long_ci) (c.renew-got.auto.values ∙ v.long_cv)

pub overflow_sub-room : goal.overflow_sub-room
overflow_sub-room c = omega (arith, c.loop-upper.invariant.reads.most)

pub slice_bounds-renew-end : goal.slice_bounds-renew-end
slice_bounds-renew-end c = sym c.loop-upper.invariant.long_ci

pub slice_bounds-renew-end-in-loop-upper : goal.slice_bounds-renew-end-in-loop-upper
slice_bounds-renew-end-in-loop-upper c = sym c.loop-upper.invariant.long_cv

pub wanted-requires : goal.wanted-requires
wanted-requires c = (
  omega (arith, c.loop-upper.invariant.upper.within.in_ids, c.loop-upper.invariant.long_ci),
  omega (arith, c.min-want.ensures),
)

pub shape_of-ids-in-Err : goal.shape_of-ids-in-Err
shape_of-ids-in-Err c = c.loop-upper.invariant.reads.in_ids.kept

pub shape_of-values-in-Err : goal.shape_of-values-in-Err
shape_of-values-in-Err c = c.loop-upper.invariant.reads.in_values.kept

pub shape_of-columns-in-Err : goal.shape_of-columns-in-Err
shape_of-columns-in-Err c = c.loop-upper.invariant.reads.in_columns.kept

pub shape_of-ids-then-spent : goal.shape_of-ids-then-spent
shape_of-ids-then-spent c = c.rest.auto.ids ∙ c.loop-upper.invariant.reads.in_ids.kept

pub shape_of-values-then-spent : goal.shape_of-values-then-spent
shape_of-values-then-spent c = c.rest.auto.values ∙ c.loop-upper.invariant.reads.in_values.kept

pub shape_of-columns-then-spent : goal.shape_of-columns-then-spent
shape_of-columns-then-spent c = c.rest.auto.columns ∙ c.loop-upper.invariant.reads.in_columns.kept

pub slice_bounds-renew-end-in-loop-upper-2 : goal.slice_bounds-renew-end-in-loop-upper-2
slice_bounds-renew-end-in-loop-upper-2 c = sym c.loop-upper.invariant.long_mi

pub slice_bounds-renew-end-in-loop-upper-3 : goal.slice_bounds-renew-end-in-loop-upper-3
slice_bounds-renew-end-in-loop-upper-3 c = sym c.loop-upper.invariant.long_mv

pub shape_of-ids-in-Err-got : goal.shape_of-ids-in-Err-got
shape_of-ids-in-Err-got c = c.loop-upper.invariant.reads.in_ids.kept

pub shape_of-values-in-Err-got : goal.shape_of-values-in-Err-got
shape_of-values-in-Err-got c = c.loop-upper.invariant.reads.in_values.kept

pub shape_of-columns-in-Err-got : goal.shape_of-columns-in-Err-got
shape_of-columns-in-Err-got c = c.loop-upper.invariant.reads.in_columns.kept

pub shape_of-ids-then-spent-2 : goal.shape_of-ids-then-spent-2
shape_of-ids-then-spent-2 c = c.rest-then-spent-2.auto.ids ∙ c.loop-upper.invariant.reads.in_ids.kept

pub shape_of-values-then-spent-2 : goal.shape_of-values-then-spent-2
shape_of-values-then-spent-2 c = c.rest-then-spent-2.auto.values ∙ c.loop-upper.invariant.reads.in_values.kept

pub shape_of-columns-then-spent-2 : goal.shape_of-columns-then-spent-2
shape_of-columns-then-spent-2 c = c.rest-then-spent-2.auto.columns ∙ c.loop-upper.invariant.reads.in_columns.kept

pub shape_of-ids-then-i-room : goal.shape_of-ids-then-i-room
shape_of-ids-then-i-room c = c.loop-upper.invariant.reads.in_ids.kept

pub shape_of-values-then-i-room : goal.shape_of-values-then-i-room
shape_of-values-then-i-room c = c.loop-upper.invariant.reads.in_values.kept

pub shape_of-columns-then-i-room : goal.shape_of-columns-then-i-room
shape_of-columns-then-i-room c = c.loop-upper.invariant.reads.in_columns.kept

pub slice_bounds-merge-end : goal.slice_bounds-merge-end
slice_bounds-merge-end c = sym (c.renew-got-in-loop-upper.auto.ids ∙ c.loop-upper.invariant.long_mi)

pub slice_bounds-merge-end-in-loop-upper : goal.slice_bounds-merge-end-in-loop-upper
slice_bounds-merge-end-in-loop-upper c = sym (c.renew-got-in-loop-upper.auto.values ∙ c.loop-upper.invariant.long_mv)

pub slice_bounds-merge-end-in-loop-upper-2 : goal.slice_bounds-merge-end-in-loop-upper-2
slice_bounds-merge-end-in-loop-upper-2 c = sym (c.renew-got.auto.ids ∙ c.loop-upper.invariant.long_ci)

pub slice_bounds-merge-end-in-loop-upper-3 : goal.slice_bounds-merge-end-in-loop-upper-3
slice_bounds-merge-end-in-loop-upper-3 c = sym (c.renew-got.auto.values ∙ c.loop-upper.invariant.long_cv)
