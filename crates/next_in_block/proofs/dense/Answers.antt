-- `next_in_block::dense` meets its contract. Assumes nothing.
use Rattle.format.specs.Kit.{sym, ap, ◌∙◌, refl, arith}
use Rattle.next_in_block.specs.First.{meets}
use Rattle.next_in_block.proofs.Longs.{dense_none, dense_first, dense_fails}
use Rattle.next_in_block.proofs.dense.Goals as goal

pub returns-then-inner-long : goal.returns-then-inner-long
returns-then-inner-long c =
    let i = c.index_of-inner.ensures in
    let f = rw c.rank_bytes.ensures.0 at c.in-Some.ensures.1 in
    (ap (meets c.in-Some.place) i ∙ sym (dense_first _ _ _ _ _ _ f c.in-Some.ensures.0 (omega arith)), (c.in-Some.ensures.0, omega arith))

pub returns-else-inner-long : goal.returns-else-inner-long
returns-else-inner-long c =
    (sym (dense_fails _ _ _ _ _ _ (rw c.rank_bytes.ensures.0 at c.in-Some.ensures.1) c.in-Some.ensures.0 (omega arith)), tt)

pub returns-in_default : goal.returns-in_default
returns-in_default c = (sym (dense_none _ _ _ _ _ _ (rw c.rank_bytes.ensures.0 at c.in_default.ensures) refl (omega arith)), tt)
