-- `demands::sets::write_then_find` meets its contract. Assumes nothing.
use Rattle.format.specs.Kit.{refl, ap, ℕ, arith, sub-zero, take}
use Rattle.answers.specs.Replies.{reply_of}
use Rattle.demands.proofs.Replies.{not_done, output_room}
use Rattle.demands.proofs.Writing.{wrote_a_set}
use Rattle.demands.proofs.sets.write_then_find.Goals as goal

pub slice_bounds-set_check-end : goal.slice_bounds-set_check-end
slice_bounds-set_check-end c =
    let a = c.args in
    let e = c.set_write-wrote.ensures in
    omega (
      arith,
      output_room a.out.now _ c.set_write-wrote.result _ e.replies e.written _ (ap reply_of c.in-Ok.is),
      c.set_write-wrote.auto,
    )

pub slice_bounds-set_find-end : goal.slice_bounds-set_find-end
slice_bounds-set_find-end c =
    let a = c.args in
    let e = c.set_write-wrote.ensures in
    omega (
      arith,
      output_room a.out.now _ c.set_write-wrote.result _ e.replies e.written _ (ap reply_of c.in-Ok.is),
      c.set_write-wrote.auto,
    )

pub returns-in-Err : goal.returns-in-Err
returns-in-Err c =
    let why = c.in-Err.why in
    record { checks = not_done _ why refl; finds = λ n d h. not_done _ why refl n d }

pub returns-in-Ok : goal.returns-in-Ok
returns-in-Ok c =
    let a = c.args in
    let e = c.set_write-wrote.ensures in
    let n = c.in-Ok.n in
    let x =
    wrote_a_set a.ids.now a.out.now _ c.set_write-wrote.result e.replies e.written n (ap reply_of c.in-Ok.is) _
    (ap (λ (j : ℕ). take j c.set_write-wrote.new.out) (sub-zero n)) in
    record { checks = λ i d. (c.set_check-checked.ensures.accepts _).1 x; finds = λ i d h. c.set_find-member.ensures.finds _ x h }
