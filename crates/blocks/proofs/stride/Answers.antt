-- `blocks::stride` meets its contract. Assumes nothing.
use Rattle.format.specs.Kit.{arith}
use Rattle.laws.proofs.Sizes.{stride_max}
use Rattle.blocks.proofs.stride.Goals as goal

pub returns : goal.returns
returns c = (omega arith, omega (arith, stride_max c.args.p (omega arith)))
