-- `set_blocks::block_ok` meets its contract. Assumes nothing.
use Rattle.format.specs.Kit.{arith, le-leb, lt-leb}
use Rattle.set_blocks.proofs.block_ok.Goals as goal

pub returns-then-block-least : goal.returns-then-block-least
returns-then-block-least c = let a = c.args in rw (lt-leb a.least a.block (omega arith))

pub returns : goal.returns
returns c = let a = c.args in rw (le-leb a.least a.block (omega arith))
