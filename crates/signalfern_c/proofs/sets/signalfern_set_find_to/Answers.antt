-- `signalfern_c::sets::signalfern_set_find_to` meets its contract. Assumes nothing.
use Rattle.format.specs.Kit.{ap, ◌∙◌}
use Rattle.answers.specs.Words.{member_words}
use Rattle.signalfern_c.proofs.sets.signalfern_set_find_to.Goals as goal

pub returns : goal.returns
returns c = c.put_member.ensures ∙ ap member_words c.set_find-told.ensures
