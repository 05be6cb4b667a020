-- `scaling::value_above` meets its contract: the test says that the product fits in what is left above the biased form.
use Rattle.format.specs.Kit.{sym, ap, ◌∙◌, ◌-◌, ◌*◌, ◌^◌, ◌≤◌, ◌<◌, leb-true, leb-false, arith, some, rules}
use Rattle.std.proofs.Common.{to_z-of_z, w64}
use Rattle.signed.specs.Sign.{unbiased}
use Rattle.signed.proofs.Signs.{biased_unbiased, unbiased_size}
use Rattle.scaling.proofs.Keep.{inside, outside}
use Rattle.scaling.proofs.value_above.Goals as goal
use Rattle.scaling.proofs.value_above.Goals.{Then-product_fits}

-- Assumes nothing.
room : (c : Then-product_fits) → c.args.stored * c.args.divisor ≤ 2 ^ 64 - 1 - c.args.low
room c = leb-true _ _ (sym c.product_fits.ensures ∙ c.if-product_fits.true)

pub overflow_mul-stored : goal.overflow_mul-stored
overflow_mul-stored c = omega (arith, room c)

pub overflow_add-low : goal.overflow_add-low
overflow_add-low c = omega (arith, room c)

pub returns-then-product_fits : goal.returns-then-product_fits
returns-then-product_fits c =
    let q = to_z-of_z {w = w64} {z = c.unbiased.result} (search rules) ∙ c.unbiased.ensures in
    ap some q
    ∙ inside (unbiased c.args.low) c.args.divisor c.args.stored _ (unbiased_size c.args.low c.ranges.low.fits)
    (sym (biased_unbiased c.args.low)) (omega (arith, room (goal.at.returns-then-product_fits c).Then-product_fits))

pub returns-else-product_fits : goal.returns-else-product_fits
returns-else-product_fits c =
    let past : 2 ^ 64 - 1 - c.args.low < c.args.stored * c.args.divisor = leb-false _ _ (sym c.product_fits.ensures ∙ c.if-product_fits.false) in
    outside (unbiased c.args.low) c.args.divisor c.args.stored _ (unbiased_size c.args.low c.ranges.low.fits)
    (sym (biased_unbiased c.args.low)) (omega arith)
