use Rattle.format.specs.Kit.{◌≡◌, ◌+◌}
use Rattle.scaling.specs.Scaled.{gcd_at}
use Rattle.scaling.proofs.divisor.multiples.Given as goal

-- `scaling::divisor::multiples` meets its contract. The loop's invariant: while nothing was unlike, g is what it makes with the values passed. Assumes nothing.
abbrev pub invariant-loop-v : goal.invariant-loop-v
invariant-loop-v l = l.seen ≡ 0 → gcd_at l.g (l.from + l.v-index) l.values ≡ gcd_at l.g l.from l.values
