-- `signalfern_c::signalfern_next_in_to` meets its contract. Assumes nothing.
use Rattle.format.specs.Kit.{ap, ap₂, ◌∙◌}
use Rattle.format.specs.Opening.{Opened}
use Rattle.format.specs.Next.{next_in}
use Rattle.answers.specs.Words.{candidate_words, next_words}
use Rattle.signalfern_c.proofs.signalfern_next_in_to.Goals as goal

pub returns : goal.returns
returns c =
    let n = c.next_in-told.ensures in
    let a = c.args in
    c.put_candidate.ensures ∙ ap₂ candidate_words n.answers n.cursor
    ∙ ap (λ (x : Opened). next_words (next_in a.bytes.now x a.last a.target) a.last a.target) c.column_in.ensures
