-- `signalfern::first_between` meets its contract. Assumes nothing.
use Rattle.format.specs.Kit.{ap₂, ◌∙◌, ℤ}
use Rattle.format.specs.FirstBetween.{first_between}
use Rattle.signed.proofs.Signs.{read_back}
use Rattle.signalfern.proofs.first_between.Goals as goal

pub returns : goal.returns
returns c =
    let a = c.args in
    c.first_between.ensures
    ∙ ap₂ (λ (x y : ℤ). first_between a.bytes.now x y) (read_back a.low c.ranges.low.sfits) (read_back a.high c.ranges.high.sfits)
