use Rattle.format.specs.Kit.{◌≡◌, List, some, ℕ, ◌+◌, ◌*◌, ◌<◌, ◌≤◌, ℤ, drop}
use Rattle.format.specs.Table.{table_value}
use Rattle.format.specs.Check.{all_values}
use Rattle.format.specs.Stores.{Fill}
use Rattle.table_values.proofs.fill.Given as goal

-- `table_values::fill` meets its contract. The loop's invariant: of the values that are all there, those from i on are still to be stored, and
-- code i stands at the place that is kept. Assumes nothing.
abbrev pub invariant-loop-i : goal.invariant-loop-i
invariant-loop-i l =
    (l.i ≤ l.n)
    × ((t : ℕ) → l.start ≡ 8 * t → (vs : List ℤ) → all_values l.n (table_value t l.w l.section) ≡ some vs → Fill l.initial.values 0 vs l.values l.i (drop l.i vs))
    × (l.at * 8 + l.skip ≡ l.i * l.w) × (l.skip < 8)
