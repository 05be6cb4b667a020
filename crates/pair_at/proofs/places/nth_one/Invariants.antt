use Rattle.format.specs.Kit.{◌≡◌, ◌/◌, ◌%◌, ◌^◌, ◌≤◌, ones_in}
use Rattle.pair_at.proofs.places.nth_one.Given as goal

-- `pair_at::places::nth_one` meets its contract. Invariant: `bits` has the bits from y on, before which so many ones stand. Assumes nothing.
abbrev pub invariant-loop-passed : goal.invariant-loop-passed
invariant-loop-passed l = (l.y ≤ 64) × (l.bits ≡ l.long / 2 ^ l.y) × (ones_in 64 (l.long % 2 ^ l.y) ≡ l.passed)
