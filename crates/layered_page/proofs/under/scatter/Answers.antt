-- `layered_page::under::scatter` meets its contract. Assumes nothing.
use Rattle.format.specs.Kit.{rules, refl, get_or, arith, pos}
use Rattle.std.proofs.Common.{to_z-of_z, w64}
use Rattle.layered_page.proofs.Gathered.{puts, put_all_lem}
use Rattle.layered_page.proofs.under.scatter.Goals as goal

pub loop-i-preserved : goal.loop-i-preserved
loop-i-preserved c =
    let l = c.loop-i in
    let p = c.requires in
    let h = c.loop-i-test.true in
    let r = to_z-of_z {w = w64} {z = get_or c.args.below_values.now l.i (pos 0)} (search rules) in (
      puts _ _ _ l.invariant.0 _ _ 0 h (omega (arith, h, p.ordinals_long)) refl refl,
      puts _ _ _ l.invariant.1 _ _ (pos 0) h (omega (arith, h, p.values_long)) refl r,
      puts _ _ _ l.invariant.2 _ _ 0 h (omega (arith, h, p.kinds_long)) refl refl,
    )

pub returns : goal.returns
returns c =
    let l = c.loop-i in
    let h = c.loop-i-test.false in (
      put_all_lem _ _ _ l.invariant.0 (omega (arith, h)),
      put_all_lem _ _ _ l.invariant.1 (omega (arith, h)),
      put_all_lem _ _ _ l.invariant.2 (omega (arith, h)),
    )
