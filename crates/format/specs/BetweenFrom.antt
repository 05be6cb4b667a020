-- The question of document 02, [11], asked again above an answer: the first ordinal from o on with a value from a to b, in a column of edition 3.
-- Document 02's question is the one from 0 on. (Not in document 02: docs/DECISIONS.md.) Assumes nothing.
use Rattle.std.specs.Prelude.{◌+◌, ◌-◌, ◌*◌, ◌/◌, ◌%◌, ◌&&◌, ◌∷◌}
use Rattle.format.specs.Kit.{ℕ, suc, min, cond, List, [], Option, none, eqb, ltb, ℤ, le_z}
use Rattle.format.specs.Refusals.{Outcome, done, and_then, need, EDITION, HEADER, LENGTH}
use Rattle.format.specs.ValueRuns.{run_length, run_count, Summary, summary_at}
use Rattle.format.specs.Editions.{runs, number_of}
use Rattle.format.specs.Opening.{Opened, open_column, head_ok, length_ok, value_part, value_of}
use Rattle.format.specs.FirstBetween.{skipped, scan_from, runs_from}

-- from value k of run r on: the values of that run from there on, unless it is skipped unread, and then the runs after it
unfoldable pub from_value : (ℕ → Option ℤ) → (ℕ → Summary) → ℤ → ℤ → ℕ → ℕ → ℕ → Outcome (Option ℕ)
from_value f x a b n r k =
    let later : Outcome (Option ℕ) = runs_from f x a b n (run_count n - suc r) (suc r) in
    let here : Outcome (Option ℕ) = scan_from f a b (min run_length (n - run_length * r) - k) (run_length * r + k) later in
    cond (skipped a b (x r)) later here

-- of an opened column; a > b gives none, and so does an ordinal of n or more
unfoldable pub between_steps_from : List ℕ → Opened → ℕ → ℤ → ℤ → Outcome (Option ℕ)
between_steps_from bytes c o a b =
    let n : ℕ = c.head.count in
    let found : Outcome (Option ℕ) = from_value (value_of bytes c) (summary_at (value_part bytes c)) a b n (o / run_length) (o % run_length) in
    cond (le_z a b && ltb o n) found (done none)

-- ---- the calls, refused as document 02's question is

unfoldable pub first_between_from : List ℕ → ℕ → ℤ → ℤ → Outcome (Option ℕ)
first_between_from bytes o a b = and_then (open_column (runs ∷ []) bytes) (λ c. between_steps_from bytes c o a b)

unfoldable pub first_between_from_in : List ℕ → Opened → ℕ → ℤ → ℤ → Outcome (Option ℕ)
first_between_from_in bytes c o a b =
    need (eqb (number_of c.head.edition) (number_of runs)) EDITION 0
    (need (head_ok c.head) HEADER 0
    (need (length_ok bytes c) LENGTH 0
    (between_steps_from bytes c o a b)))
