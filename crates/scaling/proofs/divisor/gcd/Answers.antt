-- `scaling::divisor::gcd` meets its contract. Each turn is Euclid's step, which keeps the greatest common divisor; y falls.
use Rattle.format.specs.Kit.{sym, ap, ◌∙◌, pos_of_ne-zero, mod-lt}
use Rattle.format.specs.Values.{gcd}
use Rattle.laws.proofs.Gcd.{gcd_step, gcd_zero}
use Rattle.scaling.proofs.divisor.gcd.Goals as goal

pub loop-y-smaller : goal.loop-y-smaller
loop-y-smaller c = mod-lt c.loop-y.x (pos_of_ne-zero c.loop-y-test.true)

pub loop-y-preserved : goal.loop-y-preserved
loop-y-preserved c = sym (gcd_step c.loop-y.x c.loop-y.y) ∙ c.loop-y.invariant

pub returns : goal.returns
returns c =
    let l = c.loop-y in
    sym (gcd_zero l.x) ∙ sym (ap (gcd l.x) c.loop-y-test.false) ∙ l.invariant
