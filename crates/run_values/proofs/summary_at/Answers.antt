-- `run_values::summary_at` meets its contract. Assumes nothing.
use Rattle.format.specs.Kit.{arith, rules}
use Rattle.format.specs.ValueRuns.{summary_at}
use Rattle.run_values.proofs.Reached.{turned_value}
use Rattle.run_values.proofs.summary_at.Goals as goal

pub returns : goal.returns
unfolding summary_at
returns c =
    let p = turned_value c.long_at.result c.turned-smallest.result _ (omega arith) c.turned-smallest.ensures.0 c.long_at.ensures in
    let q = turned_value c.long_at-2.result c.turned-greatest.result _ (omega arith) c.turned-greatest.ensures.0
    c.long_at-2.ensures in
    (λ i. record { smallest = p i; greatest = q i; start = c.long_at-start.ensures i; width = c.from-width.ensures i }, search rules)
