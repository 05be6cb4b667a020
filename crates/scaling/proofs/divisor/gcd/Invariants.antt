use Rattle.format.specs.Kit.{◌≡◌}
use Rattle.format.specs.Values.{gcd}
use Rattle.scaling.proofs.divisor.gcd.Given as goal

-- `scaling::divisor::gcd` meets its contract. Each turn is Euclid's step, which keeps the greatest common divisor; y falls.
-- Assumes nothing.
abbrev pub invariant-loop-y : goal.invariant-loop-y
invariant-loop-y l = gcd l.x l.y ≡ gcd l.a l.b

abbrev pub decreases-loop-y : goal.decreases-loop-y
decreases-loop-y l = l.y
