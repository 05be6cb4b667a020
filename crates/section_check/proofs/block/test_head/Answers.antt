-- `section_check::block::test_head` meets its contract. Assumes nothing.
use Rattle.format.specs.Kit.{sym, arith}
use Rattle.section_check.proofs.Turns.{head_cut, head_low, head_high, head_right}
use Rattle.section_check.proofs.block.test_head.Goals as goal

pub returns-then-k-next : goal.returns-then-k-next
returns-then-k-next c =
    let a = c.args in
    head_low a.p a.s.now a.at a.next a.k a.c (omega arith) (omega arith)

pub returns-then-k-gt-MAX_BLOCK : goal.returns-then-k-gt-MAX_BLOCK
returns-then-k-gt-MAX_BLOCK c =
    let a = c.args in
    head_high a.p a.s.now a.at a.next a.k a.c (omega arith) (omega arith) (omega arith)

pub returns : goal.returns
returns c =
    let a = c.args in
    sym (head_right a.p a.s.now a.at a.next a.k a.c (omega arith) (omega arith) (omega arith) 0)

pub returns-then-s-at : goal.returns-then-s-at
returns-then-s-at c = let a = c.args in head_cut a.p a.s.now a.at a.next a.k a.c (omega arith)
