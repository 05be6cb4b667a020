-- `signalfern_c::signalfern_next_to` meets its contract. Assumes nothing.
use Rattle.format.specs.Kit.{ap₂, ◌∙◌}
use Rattle.answers.specs.Words.{candidate_words}
use Rattle.signalfern_c.proofs.signalfern_next_to.Goals as goal

pub returns : goal.returns
returns c = let n = c.next-told.ensures in c.put_candidate.ensures ∙ ap₂ candidate_words n.answers n.cursor
