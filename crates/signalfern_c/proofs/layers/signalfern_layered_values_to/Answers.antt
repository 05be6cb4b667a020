-- `signalfern_c::layers::signalfern_layered_values_to` meets its contract. Assumes nothing.
use Rattle.format.specs.Kit.{ap, ◌∙◌}
use Rattle.answers.specs.Words.{part_words}
use Rattle.signalfern_c.proofs.layers.signalfern_layered_values_to.Goals as goal

pub returns : goal.returns
returns c = c.put_part.ensures ∙ ap part_words c.layered_part-told.ensures
