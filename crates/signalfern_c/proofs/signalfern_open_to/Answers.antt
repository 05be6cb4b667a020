-- `signalfern_c::signalfern_open_to` meets its contract. Assumes nothing.
use Rattle.format.specs.Kit.{ap, ◌∙◌}
use Rattle.answers.specs.Words.{column_words}
use Rattle.signalfern_c.proofs.signalfern_open_to.Goals as goal

pub returns : goal.returns
returns c = c.put_column.ensures ∙ ap column_words c.open-opened.ensures
