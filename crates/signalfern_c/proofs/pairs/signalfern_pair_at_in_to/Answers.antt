-- `signalfern_c::pairs::signalfern_pair_at_in_to` meets its contract. Assumes nothing.
use Rattle.format.specs.Kit.{ap, ◌∙◌}
use Rattle.format.specs.Opening.{Opened}
use Rattle.format.specs.PairAt.{pair_at_in}
use Rattle.answers.specs.Words.{pair_words}
use Rattle.signalfern_c.proofs.pairs.signalfern_pair_at_in_to.Goals as goal

pub returns : goal.returns
returns c =
    let a = c.args in
    c.put_pair.ensures ∙ ap pair_words c.pair_at_in-told.ensures
    ∙ ap (λ (x : Opened). pair_words (pair_at_in a.bytes.now x a.ordinal)) c.column_in.ensures
