use Rattle.format.specs.Kit.{◌-◌, length}
use Rattle.scaling.specs.Scaled.{EndsAt}
use Rattle.scaling.proofs.bounds.ends_of.Given as goal

-- `scaling::bounds::ends_of` meets its contract. The loop's invariant: low and high are the ends of the values passed. Assumes nothing.
abbrev pub invariant-loop-i : goal.invariant-loop-i
invariant-loop-i l = EndsAt l.values l.i l.ends.low l.ends.high

abbrev pub decreases-loop-i : goal.decreases-loop-i
decreases-loop-i l = length l.values - l.i
