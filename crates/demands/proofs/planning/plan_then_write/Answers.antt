-- `demands::planning::plan_then_write` meets its contract. Assumes nothing.
use Rattle.format.specs.Kit.{refl, ap, ◌∙◌, ℕ, arith, sub-zero, take}
use Rattle.std.specs.Prelude.{Ok, Err}
use Rattle.std.proofs.lemmas.Result.{err_from_is_err_and}
use Rattle.demands.proofs.Replies.{output_room}
use Rattle.demands.proofs.Writing.{proposed_taken, proposed_writes, proposed_is, proposed_room, room_proposed, no_buffer, plan_not_17}
use Rattle.demands.proofs.planning.plan_then_write.Goals as goal

pub returns-in_err-n : goal.returns-in_err-n
returns-in_err-n c =
    let a = c.args in
    let e = c.in_err-n.ensures in
    let r = Err c.in_err-n.field-0.0 in
    let p = err_from_is_err_and c.from_residual.result c.from_residual.ensures.1 in
    rw (p.1, p.2)
    (record {
      writes = λ h al. absurd (room_proposed a.values.now a.lent.now _ r e.replies e.proposed _ _ refl h);
      taken = plan_not_17 a.values.now a.lent.now _ r e.replies e.proposed;
      no_buffer = λ h. (no_buffer a.values.now a.lent.now _ r e.replies e.proposed h, refl);
    })

pub slice_bounds-write_planned-end : goal.slice_bounds-write_planned-end
slice_bounds-write_planned-end c =
    let a = c.args in
    let e = c.in_ok-n.ensures in
    omega (
      arith,
      output_room a.lent.now _ (Ok c.in_ok-n.n) _ e.replies e.proposed _ refl,
      c.plan.auto,
    )

pub returns : goal.returns
returns c =
    let a = c.args in
    let e = c.in_ok-n.ensures in
    let f = c.write_planned.ensures in
    let r = c.write_planned.result in
    let n = c.in_ok-n.n in
    let us =
    ap (λ (k : ℕ). take k c.plan.new.table) (sub-zero n) ∙ proposed_is a.values.now a.lent.now _ (Ok n) e.replies e.proposed n refl in record { writes = λ h. proposed_writes a.power a.ids.now a.values.now _ a.out.now _ r us f.replies f.written; taken = proposed_taken a.power a.ids.now a.values.now _ _ r us f.replies; no_buffer = λ h. absurd (proposed_room a.values.now a.lent.now _ (Ok n) e.replies e.proposed n refl h) }
