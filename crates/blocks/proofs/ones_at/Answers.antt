-- `blocks::ones_at` meets its contract. Assumes nothing.
use Rattle.format.specs.Kit.{ap, ◌∙◌, ones_in}
use Rattle.blocks.proofs.ones_at.Goals as goal

pub returns : goal.returns
returns c = (c.ones_of.ensures.0 ∙ ap (ones_in 64) c.long_at.ensures, c.ones_of.ensures.1)
