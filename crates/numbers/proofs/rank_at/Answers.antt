-- `numbers::rank_at` meets its contract. Assumes nothing.
use Rattle.format.specs.Kit.{arith}
use Rattle.numbers.proofs.Shorts.{rank_is}
use Rattle.numbers.proofs.rank_at.Goals as goal

pub returns : goal.returns
returns c = let a = c.args in (omega (arith, rank_is a.s.now a.i (omega arith), c.from_be_bytes.ensures), omega arith)
