-- `blocks::four_ones` meets its contract. Assumes nothing.
use Rattle.format.specs.Kit.{arith}
use Rattle.blocks.proofs.Ones.{ones_four}
use Rattle.blocks.proofs.four_ones.Goals as goal

pub returns : goal.returns
returns c =
    let a = c.args in (
      omega (
        arith,
        ones_four a.s.now a.m a.first,
        c.ones_at.ensures.0,
        c.ones_at-2.ensures.0,
        c.ones_at-3.ensures.0,
        c.ones_at-4.ensures.0,
      ),
      omega arith,
    )
