-- `numbers::short_at` meets its contract. Assumes nothing.
use Rattle.format.specs.Kit.{arith}
use Rattle.numbers.proofs.Shorts.{short_is}
use Rattle.numbers.proofs.short_at.Goals as goal

pub returns : goal.returns
returns c = let a = c.args in (omega (arith, short_is a.s.now a.i (omega arith), c.from_le_bytes.ensures), omega arith)
