-- `low_packing::topped` meets its contract. Assumes nothing.
use Rattle.low_packing.proofs.Stream.{topped_is}
use Rattle.low_packing.proofs.topped.Goals as goal

pub returns : goal.returns
returns c = topped_is c.args.x c.args.have c.args.acc c.requires.0 c.requires.1
