-- `signalfern_c::ranges::signalfern_first_between_from_to` meets its contract. Assumes nothing.
use Rattle.format.specs.Kit.{ap, ap₂, ◌∙◌, ℤ}
use Rattle.format.specs.BetweenFrom.{first_between_from}
use Rattle.signed.proofs.Signs.{read_back}
use Rattle.answers.specs.Words.{between_words}
use Rattle.signalfern_c.proofs.ranges.signalfern_first_between_from_to.Goals as goal

pub returns : goal.returns
returns c =
    let a = c.args in
    c.put_between.ensures
    ∙ ap between_words
    (c.first_between_from-told.ensures
    ∙ ap₂ (λ (x y : ℤ). first_between_from a.bytes.now a.from x y) (read_back a.low c.ranges.low.sfits) (read_back a.high c.ranges.high.sfits))
