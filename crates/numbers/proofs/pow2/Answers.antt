-- `numbers::pow2` meets its contract. Assumes nothing.
use Rattle.numbers.proofs.Shorts.{one_shl}
use Rattle.numbers.proofs.pow2.Goals as goal

pub returns : goal.returns
returns c = one_shl c.args.b c.requires
