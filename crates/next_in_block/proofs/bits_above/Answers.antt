-- `next_in_block::bits_above` meets its contract. Assumes nothing.
use Rattle.format.specs.Kit.{shr-shr}
use Rattle.next_in_block.proofs.bits_above.Goals as goal

pub returns : goal.returns
returns c = shr-shr c.args.x c.args.z 1
