use Rattle.format.specs.Kit.{◌≡◌, ◌+◌}
use Rattle.scaling.specs.Reciprocal.{Reciprocal}
use Rattle.scaling.specs.Scaled.{gcd_at}
use Rattle.scaling.proofs.divisor.gcd_part.Given as goal

-- `scaling::divisor::gcd_part` meets its contract. The loop's invariant: what the values left make of g is what all make of the first, and m serves
-- for divisions by g. Assumes nothing.
abbrev pub invariant-loop-v : goal.invariant-loop-v
invariant-loop-v l = (gcd_at l.g (l.from + l.v-index) l.values ≡ gcd_at l.start l.from l.values) × Reciprocal l.g l.m
