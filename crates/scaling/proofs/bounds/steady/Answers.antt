-- `scaling::bounds::steady` meets its contract. Assumes nothing.
use Rattle.format.specs.Kit.{arith, rules}
use Rattle.scaling.proofs.Part.{value_at}
use Rattle.scaling.proofs.Extremes.{ends_kept}
use Rattle.scaling.proofs.bounds.steady.Goals as goal

pub loop-v-preserved : goal.loop-v-preserved
loop-v-preserved c =
    let j = c.joined-seen.ensures in
    λ z e.
    ends_kept (c.loop-v.invariant (omega (arith, j.0, z)) e) (value_at _ _ _ _ _ c.loop-v-test.true (search rules) c.biased.ensures) (omega arith)
    (c.past.ensures (omega (arith, j.1, z)))
