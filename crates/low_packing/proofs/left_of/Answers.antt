-- `low_packing::left_of` meets its contract. Assumes nothing.
use Rattle.low_packing.proofs.Stream.{left_is}
use Rattle.low_packing.proofs.left_of.Goals as goal

pub returns : goal.returns
returns c = left_is c.args.x c.args.have c.requires
