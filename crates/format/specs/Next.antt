-- Document 02, [1], "The next scored candidate": from a cursor, the first listed id at or above a target, with ordinal and value, or that there
-- is none. A cursor is the last target answered. Assumes nothing.
use Rattle.std.specs.Prelude.{◌-◌, ◌∷◌}
use Rattle.format.specs.Kit.{ℕ, zero, suc, cond, List, [], get_or, leb, ltb, ℤ, pos}
use Rattle.format.specs.Limits.{max_id}
use Rattle.format.specs.Refusals.{Outcome, done, refused, and_then, need, HEADER, LENGTH, ID, BACK}
use Rattle.format.specs.Editions.{Edition}
use Rattle.format.specs.Pairs.{Pairs}
use Rattle.format.specs.Opening.{Opened, open_column, head_ok, length_ok}
use Rattle.format.specs.LookUp.{Look, found, absent, scanned, steps}

-- an id with its ordinal and its value, or none
pub data Candidate : Type 0 where
  candidate_at : ℕ → ℕ → ℤ → Candidate
  no_candidate : Candidate

-- ---- on any bytes: the look-up's steps, taken for the target and each id above it in turn, step 5 always with document 01's scan

-- the first not absent gives the answer or the refusal; where this id is absent, `above` is what the ids above it give
unfoldable pub decides : ℕ → Outcome Look → Outcome Candidate → Outcome Candidate
decides id (done (found o v w)) above = done (candidate_at id o v)
decides id (done (absent w)) above = above
decides id (refused why x) above = refused why x

-- k ids, id and on, and then `more`
unfoldable pub in_turn : ℕ → List ℕ → Opened → ℕ → Outcome Candidate → Outcome Candidate
in_turn zero bytes c id more = more
in_turn (suc k) bytes c id more =
    let above : Outcome Candidate = in_turn k bytes c (suc id) more in
    decides id (steps scanned bytes c id) above

-- the target and all ids above it; all absent is none
unfoldable pub next_steps : List ℕ → Opened → ℕ → Outcome Candidate
next_steps bytes c t = in_turn (suc max_id - t) bytes c t (done no_candidate)

-- ---- the calls

-- a new cursor, below which no target lies
abbrev pub new_cursor : ℕ
new_cursor = 0

-- 14; 16, a target below the last one answered; 7 to 11; 15
unfoldable pub next : List Edition → List ℕ → ℕ → ℕ → Outcome Candidate
next known bytes last t =
    need (leb t max_id) ID 0
    (need (leb last t) BACK 0
    (and_then (open_column known bytes) (λ c. next_steps bytes c t)))

-- From a column that was opened before, or any numbers in its place: 14; 16; then as `look_up_in`, 10, 11 and 15. (Not in document 02:
-- docs/DECISIONS.md.)
unfoldable pub next_in : List ℕ → Opened → ℕ → ℕ → Outcome Candidate
next_in bytes c last t =
    need (leb t max_id) ID 0
    (need (leb last t) BACK 0
    (need (head_ok c.head) HEADER 0
    (need (length_ok bytes c) LENGTH 0
    (next_steps bytes c t))))

-- the cursor afterwards: none counts as an answer, and a refusal keeps the cursor
unfoldable pub last_after : Outcome Candidate → ℕ → ℕ → ℕ
last_after (done x) last t = t
last_after (refused why w) last t = last

-- ---- on accepted columns: the plain pair list's own answer

-- of ids whose first has index i: the first at or above the target, its index, and the value written with it
unfoldable pub first_from : ℕ → List ℤ → ℕ → List ℕ → Candidate
first_from t vs i [] = no_candidate
first_from t vs i (x ∷ xs) =
    let more : Candidate = first_from t vs (suc i) xs in
    cond (ltb x t) more (candidate_at x i (get_or vs i (pos 0)))

-- 14; 16; or the list's answer
unfoldable pub list_next : Pairs → ℕ → ℕ → Outcome Candidate
list_next q last t =
    need (leb t max_id) ID 0
    (need (leb last t) BACK 0
    (done (first_from t q.values 0 q.ids)))

-- the answers to targets one after the other, each from the cursor that the one before left
unfoldable pub in_sequence : (ℕ → ℕ → Outcome Candidate) → ℕ → List ℕ → List (Outcome Candidate)
in_sequence call last [] = []
in_sequence call last (t ∷ ts) = call last t ∷ in_sequence call (last_after (call last t) last t) ts
