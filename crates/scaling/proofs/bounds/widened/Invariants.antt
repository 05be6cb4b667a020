use Rattle.format.specs.Kit.{◌+◌}
use Rattle.scaling.specs.Scaled.{EndsAt}
use Rattle.scaling.proofs.bounds.widened.Given as goal

-- `scaling::bounds::widened` meets its contract. The loop's invariant: low and high are the ends of the values passed. Assumes nothing.
abbrev pub invariant-loop-v : goal.invariant-loop-v
invariant-loop-v l = EndsAt l.values (l.from + l.v-index) l.low l.high
