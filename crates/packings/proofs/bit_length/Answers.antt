-- `packings::bit_length` meets its contract. Assumes nothing.
use Rattle.format.specs.Kit.{arith, leading_le}
use Rattle.packings.proofs.Width.{leading_width}
use Rattle.packings.proofs.bit_length.Goals as goal

pub overflow_sub-result : goal.overflow_sub-result
overflow_sub-result c = omega (arith, leading_le 64 c.args.q)

pub returns : goal.returns
returns c = omega (arith, leading_width 64 c.args.q c.ranges.q.fits)
