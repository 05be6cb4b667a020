-- `demands::pairs::open_then_first_between_from` meets its contract. Assumes nothing.
use Rattle.format.specs.Kit.{sym, ap₂, ◌∙◌, ℤ}
use Rattle.format.specs.Editions.{editions}
use Rattle.format.specs.Opening.{Opened}
use Rattle.format.specs.BetweenFrom.{first_between_from_in}
use Rattle.column.specs.Opened.{column_of}
use Rattle.laws.proofs.BetweenFrom.{opened_between_from}
use Rattle.signed.proofs.Signs.{read_back}
use Rattle.demands.proofs.Lists.{not_refused}
use Rattle.demands.proofs.Answers.{from_scans, from_others}
use Rattle.demands.proofs.pairs.open_then_first_between_from.Goals as goal

pub returns-in_err-opened : goal.returns-in_err-opened
returns-in_err-opened c =
    let a = c.args in
    let e = c.in_err-opened.ensures in
    record { scans = λ n x h. not_refused a.bytes.now e n x; others = λ n x h. not_refused a.bytes.now e n x }

pub returns : goal.returns
returns c =
    let a = c.args in
    let b = a.bytes.now in
    let i = a.from in
    let col : Opened = column_of c.in_ok-opened.opened in
    let opens = sym c.in_ok-opened.ensures in
    let e =
    c.first_between_from_in.ensures
    ∙ ap₂ (λ (x y : ℤ). first_between_from_in b col i x y) (read_back a.low c.ranges.low.sfits) (read_back a.high c.ranges.high.sfits)
    ∙ opened_between_from editions b col i a.low a.high opens in
    record { scans = λ n x h. e ∙ from_scans b n x a.low a.high i h; others = λ n x h. e ∙ from_others b n x a.low a.high i h }
