-- `packings::part` meets its contract. Assumes nothing.
use Rattle.packings.proofs.part.Goals as goal

pub returns-in-High : goal.returns-in-High
returns-in-High c = rw c.in-High.is c.middle.ensures

pub returns-in-Low : goal.returns-in-Low
returns-in-Low c = rw c.in-Low.is c.part.ensures
