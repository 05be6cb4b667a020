use Rattle.format.specs.Kit.{◌≡◌, ◌-◌, ◌≤◌, length}
use Rattle.scaling.specs.Scaled.{gcd_at}
use Rattle.scaling.proofs.divisor.gcd_of.Given as goal

-- `scaling::divisor::gcd_of` meets its contract. The loop's invariant: what the values left make of g is what all make of 0. Assumes nothing.
abbrev pub invariant-loop-i : goal.invariant-loop-i
invariant-loop-i l = (l.i ≤ length l.values) × (gcd_at l.g l.i l.values ≡ gcd_at 0 0 l.values)

abbrev pub decreases-loop-i : goal.decreases-loop-i
decreases-loop-i l = length l.values - l.i
