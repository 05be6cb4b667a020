use Rattle.format.specs.Kit.{◌≡◌, ℕ, List, some, ◌*◌, min, ℤ, drop}
use Rattle.format.specs.ValueRuns.{run_length}
use Rattle.format.specs.Editions.{runs, codec}
use Rattle.format.specs.Check.{all_values}
use Rattle.answers.specs.Replies.{fields_of}
use Rattle.format.specs.Stores.{Fill}
use Rattle.run_reader.proofs.fill.Given as goal

-- `run_reader::fill` meets its contract. The loop's invariant: of any list that all values are, the runs before run r are stored.
-- Assumes nothing.
abbrev pub invariant-loop-r : goal.invariant-loop-r
invariant-loop-r l =
    (i : ℕ) → i ≡ min (run_length * l.r) l.n → (vs : List ℤ) → all_values l.n ((codec runs).value l.n (fields_of l.fields) l.section) ≡ some vs
    → Fill l.initial.values 0 vs l.values i (drop i vs)
