-- `in_block::halve` ends, since hi minus lo falls.
use Rattle.format.specs.Kit.{◌-◌}
use Rattle.in_block.proofs.+halve.Given as goal

abbrev pub decreases-halve : goal.decreases-halve
decreases-halve l = l.hi - l.lo
