-- `next_in_block::entry_at` meets its contract. Assumes nothing.
use Rattle.format.specs.Kit.{arith}
use Rattle.numbers.proofs.Shorts.{short_is}
use Rattle.next_in_block.proofs.entry_at.Goals as goal

pub returns : goal.returns
returns c = let a = c.args in omega (arith, c.from.ensures, c.from-2.ensures, short_is a.s.now a.i (omega arith))
