-- `demands::planning::planned_then_check_then_read` meets its contract. Assumes nothing.
use Rattle.demands.proofs.Replies.{output_room, comes_back}
use Rattle.demands.proofs.Writing.{planned_holds}
use Rattle.demands.proofs.planning.planned_then_check_then_read.Goals as goal

pub returns : goal.returns
returns c =
    let a = c.args in
    let r = c.write_planned-wrote.result in
    let e = c.write_planned-wrote.ensures in
    let k = c.come_back.ensures in
    comes_back _ _ _ _ _ _ r _ _ _ k.same
    (λ n d.
    k.back n _ d (output_room a.out.now _ r _ e.replies e.written n d)
    (planned_holds a.power a.ids.now a.values.now a.table.now a.out.now _ r e.replies e.written n c.each_fits.ensures d))
    k.refused
