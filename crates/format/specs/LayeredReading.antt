-- A reading from an id on in a machine column with a correction on top: the pairs of both columns in the order of ids, with the column of each.
-- (Not in document 02: docs/DECISIONS.md.) Assumes nothing.
use Rattle.std.specs.Prelude.{◌∷◌, ◌++◌}
use Rattle.format.specs.Kit.{ℕ, zero, suc, Bool, true, false, cond, List, [], map, length, take, drop, Option, none, some, leb, ltb, eqb, ℤ}
use Rattle.format.specs.Limits.{max_id}
use Rattle.format.specs.Refusals.{Outcome, done, refused, and_then, need, HEADER, LENGTH, ID}
use Rattle.format.specs.Editions.{Edition}
use Rattle.format.specs.Pairs.{Pairs}
use Rattle.format.specs.Opening.{Opened, open_column, head_ok, length_ok}
use Rattle.format.specs.Next.{Candidate, candidate_at, no_candidate, next_steps}
use Rattle.format.specs.Layered.{Layer, machine, correction, layer_number}
use Rattle.format.specs.ReadFrom.{id_after}

-- a pair and the column that it came from
pub record LayeredPair : Type 0 where
  pub layer : Layer
  pub id : ℕ
  pub value : ℤ

abbrev pub pair_ids : List LayeredPair → List ℕ
pair_ids ps = map (λ (p : LayeredPair). p.id) ps

-- ---- one step

-- the next pair at or above a target, that there is none, or a refusal, which names its column
pub data LayeredNext : Type 0 where
  next_pair : LayeredPair → LayeredNext
  no_pair : LayeredNext
  refused_next : Layer → ℕ → ℕ → LayeredNext

-- one column's
unfoldable pub next_from : Layer → Outcome Candidate → LayeredNext
next_from layer (done (candidate_at id o v)) = next_pair (record { layer = layer; id = id; value = v })
next_from layer (done no_candidate) = no_pair
next_from layer (refused why x) = refused_next layer why x

-- The correction's and the machine column's: the smaller id, the correction's at a tie; a refusal by either, the correction's first. So a machine
-- column whose next candidate is refused stops a reading though the correction's be smaller or have its id: a reading must not pass over a score that
-- cannot be read.
unfoldable pub sooner : LayeredNext → LayeredNext → LayeredNext
sooner (next_pair p) (next_pair q) = cond (leb p.id q.id) (next_pair p) (next_pair q)
sooner (next_pair p) no_pair = next_pair p
sooner (next_pair p) (refused_next layer why x) = refused_next layer why x
sooner no_pair below = below
sooner (refused_next layer why x) below = refused_next layer why x

unfoldable pub next_of_both : List ℕ → Opened → List ℕ → Opened → ℕ → LayeredNext
next_of_both m x c y t = sooner (next_from correction (next_steps c y t)) (next_from machine (next_steps m x t))

-- ---- the steps

-- the pairs of a reading, and whether it is at its end: whether neither column has a pair above them
pub record LayeredReading : Type 0 where
  pub pairs : List LayeredPair
  pub ended : Bool

abbrev pub stopped : Bool → LayeredReading
stopped e = record { pairs = []; ended = e }

-- a pair in front
abbrev pub layered_then : LayeredPair → LayeredReading → LayeredReading
layered_then p r = record { pairs = p ∷ r.pairs; ended = r.ended }

unfoldable pub none_next : LayeredNext → Bool
none_next (next_pair p) = false
none_next no_pair = true
none_next (refused_next layer why x) = false

-- a pair is a place, and `above` says what the ids above it give; none and a refusal stop the reading
unfoldable pub steps_on : LayeredNext → (ℕ → LayeredReading) → LayeredReading
steps_on (next_pair p) above = layered_then p (above p.id)
steps_on no_pair above = stopped true
steps_on (refused_next layer why x) above = stopped false

-- k places at most, from the target t on, where `next` gives the next pair for each target
unfoldable pub layered_steps : (ℕ → LayeredNext) → ℕ → ℕ → LayeredReading
layered_steps next zero t = stopped (none_next (next t))
layered_steps next (suc k) t = steps_on (next t) (λ id. layered_steps next k (suc id))

-- ---- the calls, with room for so many pairs

pub data LayeredRead : Type 0 where
  read_to : LayeredReading → LayeredRead
  refused_read : Layer → ℕ → ℕ → LayeredRead

-- the correction's refusal, then the machine column's
unfoldable pub both_then : Outcome Opened → Outcome Opened → (Opened → Opened → LayeredRead) → LayeredRead
both_then (done y) (done x) read = read y x
both_then (done y) (refused why w) read = refused_read machine why w
both_then (refused why w) below read = refused_read correction why w

-- a column whose next pair from t on is no refusal: refused exactly where `next` with a new cursor is
unfoldable pub answering_from : List ℕ → ℕ → Opened → Outcome Opened
answering_from bytes t c = and_then (next_steps bytes c t) (λ first. done c)

-- 14, then 7 to 11, then 15
unfoldable pub column_from : List Edition → List ℕ → ℕ → Outcome Opened
column_from known bytes t = need (leb t max_id) ID 0 (and_then (open_column known bytes) (answering_from bytes t))

-- from a column that was opened before, or any numbers in its place: 14, then 10, 11 and 15
unfoldable pub column_from_in : List ℕ → Opened → ℕ → Outcome Opened
column_from_in bytes c t =
    need (leb t max_id) ID 0
    (need (head_ok c.head) HEADER 0
    (need (length_ok bytes c) LENGTH 0
    (answering_from bytes t c)))

unfoldable pub read_layered : List Edition → List ℕ → List ℕ → ℕ → ℕ → LayeredRead
read_layered known m c t room =
    both_then (column_from known c t) (column_from known m t) (λ y x. read_to (layered_steps (next_of_both m x c y) room t))

unfoldable pub read_layered_in : List ℕ → Opened → List ℕ → Opened → ℕ → ℕ → LayeredRead
read_layered_in m x c y t room =
    both_then (column_from_in c y t) (column_from_in m x t) (λ y x. read_to (layered_steps (next_of_both m x c y) room t))

-- what the three lists hold of a pair
abbrev pub pair_id : LayeredPair → ℕ
pair_id p = p.id

abbrev pub pair_value : LayeredPair → ℤ
pair_value p = p.value

abbrev pub pair_column : LayeredPair → ℕ
pair_column p = layer_number p.layer

-- ---- the reply, and the lists afterwards

-- what the call hands back: how many pairs and whether the reading is at its end, or the refusal and its column
pub data LayeredCount : Type 0 where
  count_to : ℕ → Bool → LayeredCount
  refused_count : Layer → ℕ → ℕ → LayeredCount

unfoldable pub layered_read_reply : LayeredRead → LayeredCount
layered_read_reply (read_to r) = count_to (length r.pairs) r.ended
layered_read_reply (refused_read layer why w) = refused_count layer why w

-- a list afterwards, by what its places hold: those after the pairs stay as they were; a refusal changes none
unfoldable pub layered_read_after : {A : Type 0} → (LayeredPair → A) → LayeredRead → List A → List A
layered_read_after f (read_to r) l = map f r.pairs ++ drop (length r.pairs) l
layered_read_after f (refused_read layer why w) l = l

-- ---- on two accepted columns: the two lists as one

-- a column's pairs, each with its column
unfoldable pub pairs_of : Layer → List ℕ → List ℤ → List LayeredPair
pairs_of layer [] vs = []
pairs_of layer (i ∷ is) [] = []
pairs_of layer (i ∷ is) (v ∷ vs) = record { layer = layer; id = i; value = v } ∷ pairs_of layer is vs

-- a pair put into its place in ascending pairs, instead of the pair that has its id
unfoldable pub corrected : LayeredPair → List LayeredPair → List LayeredPair
corrected p [] = p ∷ []
corrected p (q ∷ qs) =
    let later : List LayeredPair = q ∷ corrected p qs in
    cond (ltb p.id q.id) (p ∷ q ∷ qs) (cond (eqb p.id q.id) (p ∷ qs) later)

-- each of the correction's pairs put into the machine column's
unfoldable pub corrected_by : List LayeredPair → List LayeredPair → List LayeredPair
corrected_by [] ms = ms
corrected_by (p ∷ ps) ms = corrected p (corrected_by ps ms)

-- the merge of two pair lists, in which the correction c wins
abbrev pub merged : Pairs → Pairs → List LayeredPair
merged m c = corrected_by (pairs_of correction c.ids c.values) (pairs_of machine m.ids m.values)

-- the first pair at or above the target
unfoldable pub first_at : ℕ → List LayeredPair → LayeredNext
first_at t [] = no_pair
first_at t (p ∷ ps) =
    let more : LayeredNext = first_at t ps in
    cond (ltb p.id t) more (next_pair p)

-- the pairs from that one on
unfoldable pub merged_from : ℕ → List LayeredPair → List LayeredPair
merged_from t [] = []
merged_from t (p ∷ ps) =
    let more : List LayeredPair = merged_from t ps in
    cond (ltb p.id t) more (p ∷ ps)

-- the first k of these, at the end where no more are left
unfoldable pub list_read : List LayeredPair → ℕ → ℕ → LayeredReading
list_read ps k t = record { pairs = take k (merged_from t ps); ended = leb (length (merged_from t ps)) k }

-- 14, by the correction; else the merge's own reading
unfoldable pub lists_read : Pairs → Pairs → ℕ → ℕ → LayeredRead
lists_read m c t room = cond (leb t max_id) (read_to (list_read (merged m c) room t)) (refused_read correction ID 0)

-- the pair that has an id
unfoldable pub pair_with : ℕ → List LayeredPair → Option LayeredPair
pair_with id [] = none
pair_with id (p ∷ ps) = cond (eqb p.id id) (some p) (pair_with id ps)

-- the correction's, or else the machine column's
unfoldable pub or_below : Option LayeredPair → Option LayeredPair → Option LayeredPair
or_below (some p) below = some p
or_below none below = below

-- ---- readings one after the other

-- two readings as one, at its end where the second is
abbrev pub joined_readings : LayeredReading → LayeredReading → LayeredReading
joined_readings a b = record { pairs = a.pairs ++ b.pairs; ended = b.ended }

-- each with room for k pairs, the first from t on and the others from the last id + 1, until one is at its end, and f at most: all their pairs
unfoldable pub reads_from : ℕ → ℕ → (ℕ → LayeredNext) → ℕ → List LayeredPair
reads_from zero k next t = []
reads_from (suc f) k next t =
    let r : LayeredReading = layered_steps next k t in
    let on : List LayeredPair = reads_from f k next (id_after t (pair_ids r.pairs)) in
    let more : List LayeredPair = cond r.ended [] on in
    r.pairs ++ more

-- the pairs that a call gives: none where it is refused, and then it is not at its end
unfoldable pub reading_of : LayeredRead → LayeredReading
reading_of (read_to r) = r
reading_of (refused_read layer why w) = stopped false

-- the same for calls, where `read` is a call from a target on with so much room
unfoldable pub calls_from : ℕ → ℕ → (ℕ → ℕ → LayeredRead) → ℕ → List LayeredPair
calls_from zero k read t = []
calls_from (suc f) k read t =
    let r : LayeredReading = reading_of (read t k) in
    let on : List LayeredPair = calls_from f k read (id_after t (pair_ids r.pairs)) in
    let more : List LayeredPair = cond r.ended [] on in
    r.pairs ++ more
