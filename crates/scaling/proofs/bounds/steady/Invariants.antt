use Rattle.format.specs.Kit.{◌+◌, ◌<◌, ◌^◌}
use Rattle.scaling.specs.Scaled.{EndsAt}
use Rattle.scaling.proofs.bounds.steady.Given as goal

-- `scaling::bounds::steady` meets its contract. The loop's invariant: while nothing was seen above 2^63, the ends are those of the values passed. Assumes nothing.
abbrev pub invariant-loop-v : goal.invariant-loop-v
invariant-loop-v l =
    l.seen < 2 ^ 63 → EndsAt l.values l.from l.low (l.low + l.gap) → EndsAt l.values (l.from + l.v-index) l.low (l.low + l.gap)
