-- `scaled_check::fits` meets its contract. Assumes nothing.
use Rattle.format.specs.Kit.{◌∙◌}
use Rattle.scaled_check.proofs.Turns.{some_fits}
use Rattle.scaled_check.proofs.fits.Goals as goal

pub returns : goal.returns
returns c = c.is_some.ensures ∙ some_fits _ c.value_of.result c.value_of.ensures
