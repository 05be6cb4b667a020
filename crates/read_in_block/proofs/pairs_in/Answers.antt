-- `read_in_block::pairs_in` meets its contract. Assumes nothing.
use Rattle.format.specs.Kit.{arith}
use Rattle.laws.proofs.Blocks.{kind_sparse}
use Rattle.read_in_block.proofs.pairs_in.Goals as goal

pub one_by_one-requires : goal.one_by_one-requires
one_by_one-requires c = let p = c.requires in
    (p.0, p.1, kind_sparse _ (omega (arith, c.if-block-lt-FEW.true)), p.2)
