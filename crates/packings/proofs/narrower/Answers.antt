-- `packings::narrower` meets its contract. Assumes nothing.
use Rattle.format.specs.Kit.{arith}
use Rattle.packings.proofs.narrower.Goals as goal

pub returns-in-High : goal.returns-in-High
returns-in-High c = (rw c.in-High.is, omega arith)

pub returns-in-Low : goal.returns-in-Low
returns-in-Low c = (rw c.in-Low.is c.listed_before.ensures.0, c.listed_before.ensures.1)
