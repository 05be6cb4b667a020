-- `demands::opened::first_between_in` meets its contract. Assumes nothing.
use Rattle.format.specs.Kit.{sym, ap₂, ◌∙◌, subst, ℤ}
use Rattle.format.specs.FirstBetween.{first_between_in}
use Rattle.column.specs.Opened.{column_of}
use Rattle.signed.proofs.Signs.{read_back}
use Rattle.demands.specs.Tables.{BetweenInSays}
use Rattle.demands.proofs.Tables.{between_in_says}
use Rattle.demands.proofs.opened.first_between_in.Goals as goal

pub returns : goal.returns
returns c =
    let a = c.args in
    let b = a.bytes.now in
    let x = column_of a.column in
    let e =
    c.first_between_in.ensures
    ∙ ap₂ (λ (l h : ℤ). first_between_in b x l h) (read_back a.low c.ranges.low.sfits) (read_back a.high c.ranges.high.sfits) in
    record { says = subst (BetweenInSays b x a.low a.high) (sym e) (between_in_says b x a.low a.high) }
