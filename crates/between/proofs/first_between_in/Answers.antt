-- `between::first_between_in` meets its contract. Assumes nothing.
use Rattle.format.specs.Kit.{ap₂, ◌∙◌, ℤ}
use Rattle.format.specs.BetweenFrom.{first_between_from_in}
use Rattle.laws.proofs.BetweenFrom.{in_from_zero}
use Rattle.signed.proofs.Signs.{read_back}
use Rattle.column.specs.Opened.{column_of}
use Rattle.between.proofs.first_between_in.Goals as goal

pub returns : goal.returns
returns c =
    let a = c.args in
    c.first_between_from_in.ensures
    ∙ ap₂ (λ (x y : ℤ). first_between_from_in a.bytes.now (column_of a.column) 0 x y) (read_back a.low c.ranges.low.sfits)
    (read_back a.high c.ranges.high.sfits)
    ∙ in_from_zero a.bytes.now a.low a.high (column_of a.column)
