-- `layered_page::under::lost` meets its contract. Assumes nothing.
use Rattle.format.specs.Kit.{arith}
use Rattle.layered_page.proofs.Lost.{keeps, loses, all_lost}
use Rattle.layered_page.proofs.under.lost.Goals as goal

pub loop-i-preserved-then-kinds-i-le-ABSENT : goal.loop-i-preserved-then-kinds-i-le-ABSENT
loop-i-preserved-then-kinds-i-le-ABSENT c =
    let e = c.requires.1 in
    keeps _ _ _ c.loop-i.invariant (omega (arith, c.loop-i-test.true, e)) c.loop-i-test.true c.if-kinds-i-le-ABSENT.true

pub loop-i-preserved : goal.loop-i-preserved
loop-i-preserved c =
    let e = c.requires.1 in
    loses _ _ _ c.loop-i.invariant (omega (arith, c.loop-i-test.true, e)) c.loop-i-test.true (omega (arith, c.if-kinds-i-le-ABSENT.false))
    c.words_of.ensures c.wrapping_add_u64-words.ensures.value

pub returns : goal.returns
returns c = all_lost _ _ _ c.loop-i.invariant (omega (arith, c.loop-i-test.false))
