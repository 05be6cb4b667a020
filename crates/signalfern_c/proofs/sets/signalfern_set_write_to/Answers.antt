-- `signalfern_c::sets::signalfern_set_write_to` meets its contract. Assumes nothing.
use Rattle.format.specs.Kit.{ap, ◌∙◌}
use Rattle.answers.specs.Words.{reply_words}
use Rattle.signalfern_c.proofs.sets.signalfern_set_write_to.Goals as goal

pub returns : goal.returns
returns c = let w = c.set_write-told in record { replies = c.put_reply.ensures ∙ ap reply_words w.ensures.replies; written = w.ensures.written }
