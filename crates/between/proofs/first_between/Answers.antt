-- `between::first_between` meets its contract. Assumes nothing.
use Rattle.format.specs.Kit.{ap₂, ◌∙◌, ℤ}
use Rattle.format.specs.BetweenFrom.{first_between_from}
use Rattle.laws.proofs.BetweenFrom.{between_from_zero}
use Rattle.signed.proofs.Signs.{read_back}
use Rattle.between.proofs.first_between.Goals as goal

pub returns : goal.returns
returns c =
    let a = c.args in
    c.first_between_from.ensures
    ∙ ap₂ (λ (x y : ℤ). first_between_from a.bytes.now 0 x y) (read_back a.low c.ranges.low.sfits) (read_back a.high c.ranges.high.sfits)
    ∙ between_from_zero a.bytes.now a.low a.high
