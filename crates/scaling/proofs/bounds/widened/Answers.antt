-- `scaling::bounds::widened` meets its contract. Assumes nothing.
use Rattle.format.specs.Kit.{arith, rules}
use Rattle.scaling.proofs.Part.{value_at}
use Rattle.scaling.proofs.Extremes.{ends_more}
use Rattle.scaling.proofs.bounds.widened.Goals as goal

pub loop-v-preserved : goal.loop-v-preserved
loop-v-preserved c =
    rw (c.min-low.ensures, c.max-high.ensures)
    (ends_more c.loop-v.invariant (value_at _ _ _ _ _ c.loop-v-test.true (search rules) c.biased-b.ensures) (omega arith))
