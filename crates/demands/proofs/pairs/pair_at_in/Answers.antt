-- `demands::pairs::pair_at_in` meets its contract. Assumes nothing.
use Rattle.format.specs.Kit.{sym, subst}
use Rattle.column.specs.Opened.{column_of}
use Rattle.demands.specs.Tables.{PairAtInSays}
use Rattle.demands.proofs.Tables.{pair_at_in_says}
use Rattle.demands.proofs.pairs.pair_at_in.Goals as goal

pub returns : goal.returns
returns c =
    let a = c.args in
    let b = a.bytes.now in
    let x = column_of a.column in
    record { says = subst (PairAtInSays b x a.ordinal) (sym c.pair_at_in.ensures) (pair_at_in_says b x a.ordinal) }
