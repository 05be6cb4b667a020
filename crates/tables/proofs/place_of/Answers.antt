-- `tables::place_of` meets its contract: where the guess is the value's entry, its place is the value's own. Assumes nothing.
use Rattle.format.specs.Kit.{sym, ap, ◌∙◌, arith}
use Rattle.format.specs.Table.{code_in}
use Rattle.laws.proofs.Ascending.{code_at}
use Rattle.tables.proofs.place_of.Goals as goal

pub returns-then-has : goal.returns-then-has
returns-then-has c =
    let us = c.args.table.now in
    let at = c.has.ensures.0 c.if-has.true in
    (sym (ap (code_in us) (sym at.1) ∙ code_at us c.from-guess.result c.requires.2 at.0), omega (arith, at.0))
