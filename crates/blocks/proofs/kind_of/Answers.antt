-- `blocks::kind_of` meets its contract. Assumes nothing.
use Rattle.format.specs.Kit.{arith, sym}
use Rattle.laws.proofs.Blocks.{kind_sparse, kind_dense, kind_all}
use Rattle.blocks.proofs.kind_of.Goals as goal

pub returns-then-count-lt-DENSE_COUNT : goal.returns-then-count-lt-DENSE_COUNT
returns-then-count-lt-DENSE_COUNT c = sym (kind_sparse c.args.count (omega arith))

pub returns-then-count-lt-PLACES : goal.returns-then-count-lt-PLACES
returns-then-count-lt-PLACES c = sym (kind_dense c.args.count (omega arith) (omega arith))

pub returns-else-count-lt-PLACES : goal.returns-else-count-lt-PLACES
returns-else-count-lt-PLACES c = sym (kind_all c.args.count (omega arith))
