-- `numbers::long_at` meets its contract. Assumes nothing.
use Rattle.format.specs.Kit.{arith}
use Rattle.numbers.proofs.Shorts.{long_is}
use Rattle.numbers.proofs.long_at.Goals as goal

pub returns : goal.returns
returns c = let a = c.args in omega (arith, long_is a.s.now a.i (omega arith), c.from_le_bytes.ensures)
