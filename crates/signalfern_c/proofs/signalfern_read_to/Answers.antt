-- `signalfern_c::signalfern_read_to` meets its contract. Assumes nothing.
use Rattle.format.specs.Kit.{ap, ◌∙◌}
use Rattle.answers.specs.Words.{reply_words}
use Rattle.signalfern_c.proofs.signalfern_read_to.Goals as goal

pub returns : goal.returns
returns c = let w = c.read-told in record { replies = c.put_reply.ensures ∙ ap reply_words w.ensures.replies; filled = w.ensures.ids_filled; valued = w.ensures.values_filled }
