-- `blocks::data_bytes` meets its contract. Assumes nothing.
use Rattle.format.specs.Kit.{sym, arith}
use Rattle.laws.proofs.Sizes.{data_sparse, data_dense, data_all}
use Rattle.blocks.proofs.data_bytes.Goals as goal

pub returns-then-c-lt-DENSE_COUNT : goal.returns-then-c-lt-DENSE_COUNT
returns-then-c-lt-DENSE_COUNT c = let a = c.args in (sym (data_sparse a.p a.c (omega arith)), omega arith)

pub returns-then-c-lt-PLACES : goal.returns-then-c-lt-PLACES
returns-then-c-lt-PLACES c = let a = c.args in (omega (arith, data_dense a.p a.c (omega arith) (omega arith)), omega arith)

pub returns : goal.returns
returns c = let a = c.args in (sym (data_all a.p a.c (omega arith)), omega arith)
