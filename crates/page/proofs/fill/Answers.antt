-- `page::fill` meets its contract. Assumes nothing.
use Rattle.format.specs.Kit.{arith}
use Rattle.page.proofs.Pages.{begins, part_on, ends}
use Rattle.page.proofs.fill.Goals as goal

pub loop-i-preserved : goal.loop-i-preserved
loop-i-preserved c =
    let e = c.part_at-part.ensures in
    part_on _ _ c.loop-i.invariant (omega (arith, e.0)) e.1 c.fill_part-words.ensures

pub loop-i-init : goal.loop-i-init
loop-i-init c = begins _ _ _

pub returns : goal.returns
returns c = ends _ _ c.loop-i.invariant (omega (arith, c.loop-i-test.false)) c.requires.2
