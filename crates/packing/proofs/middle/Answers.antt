-- `packing::middle` meets its contract.
use Rattle.packing.proofs.Join.{middle_is}
use Rattle.packing.proofs.middle.Goals as goal

-- Assumes nothing.
pub returns : goal.returns
returns c = middle_is c.args.x c.args.skip c.args.w c.requires.1
