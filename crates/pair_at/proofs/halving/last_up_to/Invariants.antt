use Rattle.format.specs.Kit.{◌≡◌, ℕ, ◌-◌, ◌≤◌, ◌<◌}
use Rattle.pair_at.proofs.Halved.{Left}
use Rattle.pair_at.proofs.halving.last_up_to.Given as goal

-- `pair_at::halving::last_up_to` meets its contract. Assumes nothing.
abbrev pub invariant-loop-hi : goal.invariant-loop-hi
invariant-loop-hi g l =
    (l.lo ≤ l.hi) × (l.hi ≤ l.n) × (0 < l.n → l.lo < l.hi)
    × ((f : ℕ → ℕ) → ((j r : ℕ) → j < l.n → goal.F-post g l.number j r → r ≡ f j) → Left f l.x l.n l.lo l.hi)

abbrev pub decreases-loop-hi : goal.decreases-loop-hi
decreases-loop-hi g l = l.hi - l.lo
