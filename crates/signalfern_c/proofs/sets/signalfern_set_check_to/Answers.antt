-- `signalfern_c::sets::signalfern_set_check_to` meets its contract. Assumes nothing.
use Rattle.format.specs.Kit.{ap, ◌∙◌}
use Rattle.answers.specs.Words.{reply_words}
use Rattle.signalfern_c.proofs.sets.signalfern_set_check_to.Goals as goal

pub returns : goal.returns
returns c = c.put_reply.ensures ∙ ap reply_words c.set_check-told.ensures
