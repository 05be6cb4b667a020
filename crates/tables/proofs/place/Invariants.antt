use Rattle.format.specs.Kit.{◌-◌}
use Rattle.signed.specs.Sign.{unbiased}
use Rattle.tables.proofs.Placed.{Split}
use Rattle.tables.proofs.place.Given as goal

-- `tables::place` meets its contract. The loop's invariant: entries before lo are below the value, those from hi on are not.
-- Assumes nothing.
abbrev pub invariant-loop-lo : goal.invariant-loop-lo
invariant-loop-lo l = Split l.table (unbiased l.b) l.lo l.hi

abbrev pub decreases-loop-lo : goal.decreases-loop-lo
decreases-loop-lo l = l.hi - l.lo
