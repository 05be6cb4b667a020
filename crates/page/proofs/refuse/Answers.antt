-- `page::refuse` meets its contract. Assumes nothing.
use Rattle.format.specs.Kit.{refl, arith}
use Rattle.page.proofs.Pages.{begins, goes_on, ends}
use Rattle.page.proofs.Parts.{keeps, kept_both}
use Rattle.page.proofs.refuse.Goals as goal

pub loop-i-preserved : goal.loop-i-preserved
loop-i-preserved c =
    let k = c.loop-i.invariant.0 in
    let r = c.requires in (
      kept_both k (keeps c.put.ensures),
      λ bytes.
          goes_on _ _ (c.loop-i.invariant.1 bytes) c.loop-i-test.true (omega (arith, c.loop-i-test.true, r.ordinals_long, k.in_ordinals))
          (omega (arith, c.loop-i-test.true, r.values_long, k.in_values)) (omega (arith, c.loop-i-test.true, r.kinds_long, k.in_kinds))
          (c.unopened-place.ensures bytes) c.put.ensures c.wrapping_add_u64-words.ensures.value,
    )

pub loop-i-init : goal.loop-i-init
loop-i-init c = (record { in_ordinals = refl; in_values = refl; in_kinds = refl }, λ bytes. begins _ _ _)

pub returns : goal.returns
returns c bytes = ends _ _ (c.loop-i.invariant.1 bytes) (omega (arith, c.loop-i-test.false)) c.requires
