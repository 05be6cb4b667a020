-- `layered_page::under::gather` meets its contract. Assumes nothing.
use Rattle.format.specs.Kit.{refl, arith}
use Rattle.layered_page.proofs.Gathered.{gathers, gathered}
use Rattle.layered_page.proofs.under.gather.Goals as goal

pub loop-i-preserved : goal.loop-i-preserved
loop-i-preserved c =
    let l = c.loop-i in
    let p = c.requires in
    let h = c.loop-i-test.true in
    let g = l.invariant in
    rw c.one_more-n.ensures
    (gathers _ _ _ _ g _ _ (omega (arith, h, p.2)) h (omega (arith, h, g.few, g.ids_kept, p.0))
    (omega (arith, h, g.few, g.places_kept, p.1)) refl refl)

pub returns : goal.returns
returns c =
    let l = c.loop-i in
    let h = c.loop-i-test.false in
    let p = c.requires in
    let e = gathered _ _ _ _ l.invariant (omega (arith, h)) (omega (arith, h, p.2)) in
    (omega (arith, l.invariant.few), e.0, e.1)
