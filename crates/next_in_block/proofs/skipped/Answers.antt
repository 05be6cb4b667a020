-- `next_in_block::skipped` meets its contract. Assumes nothing.
use Rattle.format.specs.Kit.{◌≡◌, ◌+◌, ◌*◌, arith}
use Rattle.next_in_block.proofs.Entries.{sixteen_passed}
use Rattle.next_in_block.proofs.skipped.Goals as goal

pub loop-k-preserved : goal.loop-k-preserved
loop-k-preserved c =
    let l = c.loop-k in
    let a = c.args in
    let e : a.at + 2 * (16 * l.k) ≡ a.at + 32 * l.k = omega arith in
    let g : 16 * (l.k + 1) ≡ 16 * l.k + 16 = omega arith in
    rw g (sixteen_passed a.s.now a.at a.count a.r (16 * l.k) l.invariant (omega arith) (rw e (c.some_from.ensures c.if-some_from.false)))
