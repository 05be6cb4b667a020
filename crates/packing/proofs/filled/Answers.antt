-- `packing::filled` meets its contract.
use Rattle.packing.proofs.Stream.{filled_is}
use Rattle.packing.proofs.filled.Goals as goal

-- Assumes nothing.
pub returns : goal.returns
returns c = filled_is c.args.acc c.args.have c.args.next c.requires.0 c.requires.1 c.requires.2
