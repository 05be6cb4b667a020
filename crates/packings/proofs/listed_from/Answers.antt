-- `packings::listed_from` meets its contract. Assumes nothing.
use Rattle.format.specs.Kit.{le-leb, lt-leb}
use Rattle.packings.specs.Packings.{listed_from}
use Rattle.packings.proofs.listed_from.Goals as goal

pub returns-then-b-le2 : goal.returns-then-b-le2
unfolding listed_from
returns-then-b-le2 c = rw (le-leb _ 2 c.if-b-le2.true)

pub returns-then-b-le32 : goal.returns-then-b-le32
unfolding listed_from
returns-then-b-le32 c = rw (lt-leb _ 2 c.if-b-le2.false, le-leb _ 32 c.if-b-le32.true)

pub returns : goal.returns
unfolding listed_from
returns c = rw (lt-leb _ 2 c.if-b-le2.false, lt-leb _ 32 c.if-b-le32.false)
