-- `packings::listed_before` meets its contract. Assumes nothing.
use Rattle.format.specs.Kit.{arith, le-leb, lt-leb}
use Rattle.packings.specs.Packings.{listed_before}
use Rattle.packings.proofs.listed_before.Goals as goal

pub returns-then-w-le2 : goal.returns-then-w-le2
unfolding listed_before
returns-then-w-le2 c = (rw (le-leb _ 2 c.if-w-le2.true), omega arith)

pub returns-then-w-le4 : goal.returns-then-w-le4
unfolding listed_before
returns-then-w-le4 c = (rw (lt-leb _ 2 c.if-w-le2.false, le-leb _ 4 c.if-w-le4.true), omega arith)

pub returns-then-w-le32 : goal.returns-then-w-le32
unfolding listed_before
returns-then-w-le32 c = (rw (lt-leb _ 2 c.if-w-le2.false, lt-leb _ 4 c.if-w-le4.false, le-leb _ 32 c.if-w-le32.true), omega arith)

pub returns : goal.returns
unfolding listed_before
returns c = (rw (lt-leb _ 2 c.if-w-le2.false, lt-leb _ 4 c.if-w-le4.false, lt-leb _ 32 c.if-w-le32.false), omega arith)
