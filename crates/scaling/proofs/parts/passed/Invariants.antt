use Rattle.format.specs.Kit.{true, ◌-◌, ◌≤◌}
use Rattle.scaling.specs.Passed.{Passed}
use Rattle.scaling.proofs.parts.passed.Given as goal

-- `scaling::parts::passed` meets its contract. The loop's invariant: `kept` holds of the parts passed. Assumes nothing.
abbrev pub invariant-loop-i : goal.invariant-loop-i
invariant-loop-i g l = (l.from ≤ l.i) × (l.i ≤ l.n) × Passed (λ i. goal.F-post g l.kept i true) l.step l.from l.i

abbrev pub decreases-loop-i : goal.decreases-loop-i
decreases-loop-i g l = l.n - l.i
