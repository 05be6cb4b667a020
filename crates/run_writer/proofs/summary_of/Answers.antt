-- `run_writer::summary_of` meets its contract. Assumes nothing.
use Rattle.format.specs.Kit.{◌≡◌, ap, ◌∙◌, ℕ, ◌/◌, arith}
use Rattle.format.specs.Values.{bit_length, width_with}
use Rattle.format.specs.ValueRuns.{summary_of}
use Rattle.format.specs.Editions.{high_first}
use Rattle.laws.proofs.Fits.{fits_size, smallest_fits, greatest_fits}
use Rattle.laws.proofs.ValueRuns.{run_narrow}
use Rattle.signed.specs.Sign.{unbiased}
use Rattle.signed.proofs.Signs.{unbiased_biased}
use Rattle.scaling.proofs.Spread.{spread_is}
use Rattle.run_writer.proofs.summary_of.Goals as goal

pub returns : goal.returns
unfolding summary_of width_with high_first
returns c =
    let ends = c.ends_of-ends.ensures in
    let a = c.args in
    let vs = a.part.now in
    let p = ap unbiased ends.low ∙ unbiased_biased _ (fits_size _ (smallest_fits vs ends.fit)) in
    let q = ap unbiased ends.high ∙ unbiased_biased _ (fits_size _ (greatest_fits vs ends.fit)) in
    let w : c.width_for-width.result ≡ width_with a.divisor vs =
    c.width_for-width.ensures ∙ ap (λ (n : ℕ). bit_length (n / a.divisor)) (spread_is ends) in
    (λ i. record { smallest = p i; greatest = q i; start = a.start; width = w i }, omega (arith, w, run_narrow a.divisor vs ends.fit), ends.fit)

pub overflow_sub-ends : goal.overflow_sub-ends
overflow_sub-ends c = omega (arith, c.ends_of-ends.ensures.order)
