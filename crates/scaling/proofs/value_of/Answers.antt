-- `scaling::value_of` meets its contract. Assumes nothing.
use Rattle.format.specs.Kit.{ap, ◌∙◌, ℤ}
use Rattle.format.specs.HeaderNumbers.{unzigzag}
use Rattle.format.specs.Values.{value_at}
use Rattle.format.specs.Codec.{signed64}
use Rattle.laws.proofs.Fits.{fits_size, unzigzag_fits}
use Rattle.signed.specs.Sign.{unbiased}
use Rattle.signed.proofs.Signs.{unbiased_biased}
use Rattle.scaling.proofs.value_of.Goals as goal

pub returns : goal.returns
returns c =
    c.value_above.ensures
    ∙ ap (λ (m : ℤ). signed64 (value_at m c.args.divisor c.args.stored))
    (ap unbiased c.biased_of.ensures
    ∙ unbiased_biased (unzigzag c.args.smallest) (fits_size _ (unzigzag_fits c.args.smallest c.ranges.smallest.fits)))
