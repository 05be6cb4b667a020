-- Pairs from an id on, into lent lists of ids and values: place 0 is what `next` answers for that id, place 1 what it answers for the id after
-- that one, and so on, until there is none, a list is full, or the next one would be refused. (Not in document 02: docs/DECISIONS.md.)
-- Assumes nothing.
use Rattle.std.specs.Prelude.{◌+◌, ◌-◌, ◌∷◌, ◌++◌}
use Rattle.format.specs.Kit.{ℕ, zero, suc, Bool, true, false, cond, List, [], length, get_or, take, drop, leb, ℤ}
use Rattle.format.specs.Limits.{max_id}
use Rattle.format.specs.Refusals.{Outcome, done, refused, and_then, need, HEADER, LENGTH, ID}
use Rattle.format.specs.Ids.{count_below}
use Rattle.format.specs.Editions.{Edition}
use Rattle.format.specs.Pairs.{Pairs}
use Rattle.format.specs.Opening.{Opened, open_column, head_ok, length_ok}
use Rattle.format.specs.Next.{Candidate, candidate_at, no_candidate, next_steps}

-- the pairs, and whether no listed id is left above them
pub record Readout : Type 0 where
  pub ids : List ℕ
  pub values : List ℤ
  pub ended : Bool

-- no pair
abbrev pub no_more : Bool → Readout
no_more e = record { ids = []; values = []; ended = e }

-- a pair in front
abbrev pub pair_then : ℕ → ℤ → Readout → Readout
pair_then id v w = record { ids = id ∷ w.ids; values = v ∷ w.values; ended = w.ended }

-- ---- on any bytes

-- whether a candidate is none, and whether it is no refusal
unfoldable pub is_none : Outcome Candidate → Bool
is_none (done (candidate_at id o v)) = false
is_none (done no_candidate) = true
is_none (refused why w) = false

unfoldable pub answered : Outcome Candidate → Bool
answered (done x) = true
answered (refused why w) = false

-- an id that is there takes a place, and `above` says what the ids above it give; none and a refusal stop
unfoldable pub goes_on : Outcome Candidate → (ℕ → Readout) → Readout
goes_on (done (candidate_at id o v)) above = pair_then id v (above id)
goes_on (done no_candidate) above = no_more true
goes_on (refused why w) above = no_more false

-- k pairs at most, from the id t on
unfoldable pub pairs_from : ℕ → List ℕ → Opened → ℕ → Readout
pairs_from zero bytes c t = no_more (is_none (next_steps bytes c t))
pairs_from (suc k) bytes c t = goes_on (next_steps bytes c t) (λ id. pairs_from k bytes c (suc id))

-- refused exactly where the very first candidate is, with room for it or not
unfoldable pub read_steps : List ℕ → Opened → ℕ → ℕ → Outcome Readout
read_steps bytes c t room = and_then (next_steps bytes c t) (λ x. done (pairs_from room bytes c t))

-- ---- the calls, with room for so many pairs

-- 14, then 7 to 11, then 15
unfoldable pub read_from : List Edition → List ℕ → ℕ → ℕ → Outcome Readout
read_from known bytes t room = need (leb t max_id) ID 0 (and_then (open_column known bytes) (λ c. read_steps bytes c t room))

-- from a column that was opened before, or any numbers in its place: 14, then 10, 11 and 15
unfoldable pub read_from_in : List ℕ → Opened → ℕ → ℕ → Outcome Readout
read_from_in bytes c t room =
    need (leb t max_id) ID 0
    (need (head_ok c.head) HEADER 0
    (need (length_ok bytes c) LENGTH 0
    (read_steps bytes c t room)))

-- ---- the reply, and the lists afterwards

-- how many pairs, and whether no listed id is left
unfoldable pub readout_reply : Outcome Readout → Outcome (ℕ × Bool)
readout_reply (done w) = done (length w.ids, w.ended)
readout_reply (refused why w) = refused why w

-- a list afterwards: the first places hold the pairs, and those after them stay as they were; a refusal changes none
unfoldable pub readout_after : {A : Type 0} → (Readout → List A) → Outcome Readout → List A → List A
readout_after f (done w) l = f w ++ drop (length (f w)) l
readout_after f (refused why w) l = l

-- ---- on accepted columns: the plain pair list's own pairs

-- the first k of those from the id t on, and whether no more are left
unfoldable pub list_readout : Pairs → ℕ → ℕ → Readout
list_readout q k t =
    let j : ℕ = count_below t q.ids in
    record { ids = take k (drop j q.ids); values = take k (drop j q.values); ended = leb (length q.ids) (j + k) }

unfoldable pub list_read_from : Pairs → ℕ → ℕ → Outcome Readout
list_read_from q t room = need (leb t max_id) ID 0 (done (list_readout q room t))

-- ---- calls one after the other

-- the id after the last of some ids, which came from the id t on
unfoldable pub id_after : ℕ → List ℕ → ℕ
id_after t [] = t
id_after t (x ∷ xs) = id_after (suc x) xs

-- the pairs of two as one, with none left where the second has none left
abbrev pub joined : Readout → Readout → Readout
joined a b = record { ids = a.ids ++ b.ids; values = a.values ++ b.values; ended = b.ended }

abbrev pub last_of : List ℕ → ℕ
last_of ids = get_or ids (length ids - 1) 0

abbrev pub no_pairs : Pairs
no_pairs = record { ids = []; values = [] }

-- each with room for k pairs, the first from t on and the others from the last id + 1, until none is left, and f at most: all their pairs
unfoldable pub readings_from : ℕ → ℕ → List ℕ → Opened → ℕ → Pairs
readings_from zero k bytes c t = no_pairs
readings_from (suc f) k bytes c t =
    let w : Readout = pairs_from k bytes c t in
    let on : Pairs = readings_from f k bytes c (suc (last_of w.ids)) in
    let more : Pairs = cond w.ended no_pairs on in
    record { ids = w.ids ++ more.ids; values = w.values ++ more.values }
