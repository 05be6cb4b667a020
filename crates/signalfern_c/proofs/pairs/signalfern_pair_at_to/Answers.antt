-- `signalfern_c::pairs::signalfern_pair_at_to` meets its contract. Assumes nothing.
use Rattle.format.specs.Kit.{ap, ◌∙◌}
use Rattle.answers.specs.Words.{pair_words}
use Rattle.signalfern_c.proofs.pairs.signalfern_pair_at_to.Goals as goal

pub returns : goal.returns
returns c = c.put_pair.ensures ∙ ap pair_words c.pair_at-told.ensures
