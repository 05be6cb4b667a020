-- `blocks::block_bytes` meets its contract. Assumes nothing.
use Rattle.format.specs.Kit.{arith}
use Rattle.laws.proofs.Sizes.{block_total}
use Rattle.blocks.proofs.block_bytes.Goals as goal

pub returns : goal.returns
returns c = let a = c.args in (omega (arith, block_total a.p a.c), omega arith)
