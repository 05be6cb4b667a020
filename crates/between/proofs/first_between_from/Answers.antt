-- `between::first_between_from` meets its contract: an opened column is asked as it is. Assumes nothing.
use Rattle.format.specs.Kit.{sym, ap₂, ◌∙◌, ℤ}
use Rattle.format.specs.Editions.{editions}
use Rattle.format.specs.BetweenFrom.{first_between_from_in}
use Rattle.laws.proofs.BetweenFrom.{opened_between_from, between_from_says}
use Rattle.signed.proofs.Signs.{read_back}
use Rattle.column.specs.Opened.{column_of}
use Rattle.std.proofs.lemmas.Result.{err_from_is_err_and}
use Rattle.between.proofs.first_between_from.Goals as goal

pub returns-then-other_edition : goal.returns-then-other_edition
returns-then-other_edition c =
    let a = c.args in
    sym (between_from_says a.bytes.now a.from a.low a.high _ _ (rw c.if-other_edition.true at c.other_edition.ensures))

pub returns-in_err-column : goal.returns-in_err-column
returns-in_err-column c =
    let a = c.args in
    let p = err_from_is_err_and c.from_residual.result c.from_residual.ensures.1 in
    rw (p.1, p.2)
    (sym (between_from_says a.bytes.now a.from a.low a.high _ _
    ((rw c.if-other_edition.false at c.other_edition.ensures) ∙ sym c.in_err-column.ensures)))

pub returns : goal.returns
returns c =
    let a = c.args in
    c.first_between_from_in.ensures
    ∙ ap₂ (λ (x y : ℤ). first_between_from_in a.bytes.now (column_of c.in_ok-column.column) a.from x y) (read_back a.low c.ranges.low.sfits)
    (read_back a.high c.ranges.high.sfits)
    ∙ opened_between_from editions a.bytes.now (column_of c.in_ok-column.column) a.from a.low a.high (sym c.in_ok-column.ensures)
