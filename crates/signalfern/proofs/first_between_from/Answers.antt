-- `signalfern::first_between_from` meets its contract. Assumes nothing.
use Rattle.format.specs.Kit.{ap₂, ◌∙◌, ℤ}
use Rattle.format.specs.BetweenFrom.{first_between_from}
use Rattle.signed.proofs.Signs.{read_back}
use Rattle.signalfern.proofs.first_between_from.Goals as goal

pub returns : goal.returns
returns c =
    let a = c.args in
    c.first_between_from.ensures
    ∙ ap₂ (λ (x y : ℤ). first_between_from a.bytes.now a.from x y) (read_back a.low c.ranges.low.sfits) (read_back a.high c.ranges.high.sfits)
