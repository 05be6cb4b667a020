-- `page::fill_part` meets its contract. Assumes nothing.
use Rattle.format.specs.Kit.{arith, not-false}
use Rattle.page.proofs.fill_part.Goals as goal

-- they are a run
pub fill_run-requires : goal.fill_run-requires
fill_run-requires c =
    (c.requires.0, omega (arith, c.requires.1), c.requires.2, c.requires.3, c.requires.4 (not-false _ c.if-not-part.false), rw c.in-At.is at c.way_of-way.ensures)
