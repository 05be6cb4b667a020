-- Document 02, [11], the question: the first ordinal with a value from a to b, in a column of edition 3. Assumes nothing.
use Rattle.std.specs.Prelude.{◌-◌, ◌*◌, ◌&&◌, ◌||◌, ◌∷◌}
use Rattle.format.specs.Kit.{ℕ, zero, suc, min, Bool, cond, List, [], Option, none, some, eqb, ℤ, le_z, lt_z}
use Rattle.format.specs.Refusals.{Outcome, done, and_then, need, given, EDITION, HEADER, LENGTH, BROKEN}
use Rattle.format.specs.ValueRuns.{run_length, run_count, Summary, summary_at}
use Rattle.format.specs.Editions.{runs, number_of}
use Rattle.format.specs.Opening.{Opened, open_column, head_ok, length_ok, value_part, value_of}

-- a value from a to b
abbrev pub between : ℤ → ℤ → ℤ → Bool
between a b v = le_z a v && le_z v b

-- a run that is skipped unread: its smallest is above b, or its greatest below a
abbrev pub skipped : ℤ → ℤ → Summary → Bool
skipped a b x = lt_z b x.smallest || lt_z x.greatest a

-- k ordinals, i and on: their values by step 7 in turn, a failed one being BROKEN; and then `more`
unfoldable pub scan_from : (ℕ → Option ℤ) → ℤ → ℤ → ℕ → ℕ → Outcome (Option ℕ) → Outcome (Option ℕ)
scan_from f a b zero i more = more
scan_from f a b (suc k) i more =
    let later : Outcome (Option ℕ) = scan_from f a b k (suc i) more in
    and_then (given (f i) BROKEN 0) (λ v. cond (between a b v) (done (some i)) later)

-- k runs, r and on, of n values
unfoldable pub runs_from : (ℕ → Option ℤ) → (ℕ → Summary) → ℤ → ℤ → ℕ → ℕ → ℕ → Outcome (Option ℕ)
runs_from f x a b n zero r = done none
runs_from f x a b n (suc k) r =
    let later : Outcome (Option ℕ) = runs_from f x a b n k (suc r) in
    let here : Outcome (Option ℕ) = scan_from f a b (min run_length (n - run_length * r)) (run_length * r) later in
    cond (skipped a b (x r)) later here

-- of an opened column; a > b gives none
unfoldable pub between_steps : List ℕ → Opened → ℤ → ℤ → Outcome (Option ℕ)
between_steps bytes c a b =
    let n : ℕ = c.head.count in
    let found : Outcome (Option ℕ) = runs_from (value_of bytes c) (summary_at (value_part bytes c)) a b n (run_count n) 0 in
    cond (le_z a b) found (done none)

-- ---- the calls

-- 7 to 11 first, 9 for any other edition: by a reader that knows edition 3 alone
unfoldable pub first_between : List ℕ → ℤ → ℤ → Outcome (Option ℕ)
first_between bytes a b = and_then (open_column (runs ∷ []) bytes) (λ c. between_steps bytes c a b)

-- From a column that was opened before, or any numbers in its place: 9 for any other edition, which opening tests before the other numbers;
-- then as `look_up_in`, 10, 11 and 15. (Not in document 02: docs/DECISIONS.md.)
unfoldable pub first_between_in : List ℕ → Opened → ℤ → ℤ → Outcome (Option ℕ)
first_between_in bytes c a b =
    need (eqb (number_of c.head.edition) (number_of runs)) EDITION 0
    (need (head_ok c.head) HEADER 0
    (need (length_ok bytes c) LENGTH 0
    (between_steps bytes c a b)))

-- ---- on accepted columns: the plain scan of the values, of which the first has ordinal i

unfoldable pub first_in : ℤ → ℤ → ℕ → List ℤ → Option ℕ
first_in a b i [] = none
first_in a b i (v ∷ vs) =
    let later : Option ℕ = first_in a b (suc i) vs in
    cond (between a b v) (some i) later
