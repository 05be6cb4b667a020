-- `signalfern_c::ranges::signalfern_first_between_in_to` meets its contract. Assumes nothing.
use Rattle.format.specs.Kit.{ap, ap₂, ◌∙◌, ℤ}
use Rattle.format.specs.Opening.{Opened}
use Rattle.format.specs.FirstBetween.{first_between_in}
use Rattle.signed.proofs.Signs.{read_back}
use Rattle.column.specs.Opened.{column_of}
use Rattle.answers.specs.Words.{between_words}
use Rattle.signalfern_c.proofs.ranges.signalfern_first_between_in_to.Goals as goal

pub returns : goal.returns
returns c =
    let a = c.args in
    c.put_between.ensures
    ∙ ap between_words
    (c.first_between_in-told.ensures
    ∙ ap₂ (λ (x y : ℤ). first_between_in a.bytes.now (column_of c.column_in.result) x y) (read_back a.low c.ranges.low.sfits)
    (read_back a.high c.ranges.high.sfits)
    ∙ ap (λ (x : Opened). first_between_in a.bytes.now x a.low a.high) c.column_in.ensures)
