-- Document 01, "The look-up, step by step": the steps fix the answer for any bytes, and the first step that fails decides it. Step 5 is
-- that of document 02, [8]. Assumes nothing.
use Rattle.std.specs.Prelude.{◌+◌, ◌-◌, ◌*◌, ◌/◌, ◌%◌, ◌^◌, ◌&&◌, ◌||◌, ◌∷◌}
use Rattle.format.specs.Kit.{ℕ, zero, suc, min, Bool, cond, not, List, [], Option, none, some}
use Rattle.format.specs.Kit.{length, get_or, drop, leb, ltb, eqb, ones_in, ℤ}
use Rattle.format.specs.Limits.{max_id, block_places}
use Rattle.format.specs.Refusals.{Outcome, done, refused, and_then, need, given, HEADER, LENGTH, ID, BROKEN}
use Rattle.format.specs.Bytes.{low_at, high_at}
use Rattle.format.specs.Ids.{Entry, kind_of, by_kind, rank_bytes, block_bytes}
use Rattle.format.specs.IdsRead.{shorts}
use Rattle.format.specs.Editions.{Edition}
use Rattle.format.specs.Column.{Head}
use Rattle.format.specs.Opening.{Opened, open_column, head_ok, length_ok, id_part, value_of}

-- found (ordinal, value, words), or absent (words)
pub data Look : Type 0 where
  found : ℕ → ℤ → ℕ → Look
  absent : ℕ → Look

-- ---- within a block: steps 5 and 6

-- where a place stands in a block: its index there and the words counted, nowhere with the words, or a failed step
pub data Place : Type 0 where
  inside : ℕ → ℕ → Place
  nowhere : ℕ → Place
  broken : Place

-- a sparse block: the index of r among its entries, or none
abbrev pub Rule : Type 0
Rule = ℕ → List ℕ → Option ℕ

-- scan to the first entry that is r or above, from index i on
unfoldable pub scan : ℕ → ℕ → List ℕ → Option ℕ
scan r i [] = none
scan r i (x ∷ xs) = cond (ltb x r) (scan r (suc i) xs) (cond (eqb x r) (some i) none)

-- document 01's rule
abbrev pub scanned : Rule
scanned r xs = scan r 0 xs

-- what halving tells: the index of r, or none, and the probes, the number of entries read
pub record Sought : Type 0 where
  pub index : Option ℕ
  pub probes : ℕ

abbrev pub hit : ℕ → ℕ → Sought
hit i n = record { index = some i; probes = n }

abbrev pub miss : ℕ → Sought
miss n = record { index = none; probes = n }

-- Document 02, [8], over entries lo to hi (hi not included), of which n were read before: probe (lo + hi) div 2; equal stops, below r
-- moves lo past the probe, above r moves hi to it. At most f probes more.
unfoldable pub halve_in : ℕ → ℕ → List ℕ → ℕ → ℕ → ℕ → Sought
halve_in zero r xs lo hi n = miss n
halve_in (suc f) r xs lo hi n =
    let m : ℕ = (lo + hi) / 2 in
    let x : ℕ = get_or xs m 0 in
    let past : Sought = halve_in f r xs (suc m) hi (suc n) in
    let before : Sought = halve_in f r xs lo m (suc n) in
    let probed : Sought = cond (eqb x r) (hit m (suc n)) (cond (ltb x r) past before) in
    cond (ltb lo hi) probed (miss n)

-- hi minus lo falls with each probe, so that as many are enough
unfoldable pub halve : ℕ → List ℕ → ℕ → ℕ → ℕ → Sought
halve r xs lo hi n = halve_in (hi - lo) r xs lo hi n

-- over all entries
abbrev pub halving : ℕ → List ℕ → Sought
halving r xs = halve r xs 0 (length xs) 0

-- document 02's rule
abbrev pub halved : Rule
halved r xs = (halving r xs).index

-- no rule counts words
unfoldable pub in_sparse : Option ℕ → Place
in_sparse (some i) = inside i 0
in_sparse none = nowhere 0

-- the ones in k longs of the bitmap that starts at m, from long a on
unfoldable pub ones_from : List ℕ → ℕ → ℕ → ℕ → ℕ
ones_from s m zero a = 0
ones_from s m (suc k) a = ones_in 64 (low_at 8 s (m + 8 * a)) + ones_from s m k (suc a)

-- the first long of the stride of place r, and the stride's rank, from the table at t; without ranks the block is one stride, rank 0
unfoldable pub stride_long : ℕ → ℕ → ℕ
stride_long p r = cond (eqb p 0) 0 (r / 2 ^ p * 2 ^ (p - 6))

unfoldable pub stride_rank : ℕ → List ℕ → ℕ → ℕ → ℕ
stride_rank p s t r = cond (eqb p 0) 0 (high_at 2 s (t + 2 * (r / 2 ^ p)))

-- the place r in a dense block of c ids whose data start at t
unfoldable pub dense_at : ℕ → List ℕ → ℕ → ℕ → ℕ → Place
dense_at p s t c r =
    let m : ℕ = t + rank_bytes p in
    let f : ℕ = stride_long p r in
    let long : ℕ = low_at 8 s (m + 8 * (r / 64)) in
    let i : ℕ = stride_rank p s t r + ones_from s m (r / 64 - f) f + ones_in 64 (long % 2 ^ (r % 64)) in
    cond (eqb (long / 2 ^ (r % 64) % 2) 0) (nowhere 1) (cond (ltb i c) (inside i (r / 64 - f + 1)) broken)

-- the place r in a block of c ids whose data start at t, by a rule for sparse blocks
unfoldable pub place_at : Rule → ℕ → List ℕ → ℕ → ℕ → ℕ → Place
place_at rule p s t c r =
    by_kind (kind_of c) (in_sparse (rule r (shorts c (drop t s)))) (dense_at p s t c r) (inside r 0)

-- the probes there by document 02's rule, 0 for other kinds
unfoldable pub probes_at : List ℕ → ℕ → ℕ → ℕ → ℕ
probes_at s t c r = by_kind (kind_of c) (halving r (shorts c (drop t s))).probes 0 0

-- ---- the steps

-- A = L - 8J, where the jump entries start
abbrev pub entries_at : Head → ℕ
entries_at h = h.id_bytes - 8 * h.jump_count

-- step 1: the ordinal and the start, both 0 if J = 0, else from entry min (b, J - 1) of the entries at a
unfoldable pub entry_at : List ℕ → ℕ → ℕ → ℕ → Entry
entry_at s a j b =
    cond (eqb j 0) (0, 0) (low_at 4 s (a + 8 * min b (j - 1)), low_at 4 s (a + 8 * min b (j - 1) + 4))

-- step 7
unfoldable pub answer : List ℕ → Opened → ℕ → Place → Outcome Look
answer bytes c o (inside i w) =
    and_then (given (value_of bytes c (o + i)) BROKEN 0) (λ v. done (found (o + i) v w))
answer bytes c o (nowhere w) = done (absent w)
answer bytes c o broken = refused BROKEN 0

-- steps 2 to 7, from an entry
unfoldable pub from_entry : Rule → List ℕ → Opened → ℕ → Entry → Outcome Look
from_entry rule bytes col id e =
    let h : Head = col.head in
    let s : List ℕ = id_part bytes col in
    let b : ℕ = id / block_places in
    let k : ℕ = low_at 2 s e.1 in
    let c : ℕ = low_at 2 s (e.1 + 2) + 1 in
    need (leb (e.1 + 4) (entries_at h)) BROKEN 0
    (need (eqb h.jump_count 0 || leb b k) BROKEN 0
    (cond (not (eqb k b)) (done (absent 0))
    (need (leb (e.1 + block_bytes h.power c) (entries_at h) && leb (e.0 + c) h.count) BROKEN 0
    (answer bytes col e.0 (place_at rule h.power s (e.1 + 4) c (id % block_places))))))

-- steps 1 to 7
unfoldable pub steps : Rule → List ℕ → Opened → ℕ → Outcome Look
steps rule bytes c id =
    from_entry rule bytes c id (entry_at (id_part bytes c) (entries_at c.head) c.head.jump_count (id / block_places))

-- ---- the probes, beside the answer (document 02, [8])

-- whether steps 2 to 4 lead into the block at an entry
unfoldable pub entered : List ℕ → Opened → ℕ → Entry → Bool
entered bytes col id e =
    let h : Head = col.head in
    let s : List ℕ = id_part bytes col in
    let c : ℕ = low_at 2 s (e.1 + 2) + 1 in
    leb (e.1 + 4) (entries_at h)
    && (eqb (low_at 2 s e.1) (id / block_places) && (leb (e.1 + block_bytes h.power c) (entries_at h) && leb (e.0 + c) h.count))

-- those in the block that is entered, 0 where none is
unfoldable pub probes_from : List ℕ → Opened → ℕ → Entry → ℕ
probes_from bytes col id e =
    let s : List ℕ = id_part bytes col in
    cond (entered bytes col id e) (probes_at s (e.1 + 4) (low_at 2 s (e.1 + 2) + 1) (id % block_places)) 0

unfoldable pub step_probes : List ℕ → Opened → ℕ → ℕ
step_probes bytes c id =
    probes_from bytes c id (entry_at (id_part bytes c) (entries_at c.head) c.head.jump_count (id / block_places))

-- ---- the calls

-- 14, then 7 to 11, then 15
unfoldable pub look_up : List Edition → List ℕ → ℕ → Outcome Look
look_up known bytes id = need (leb id max_id) ID 0 (and_then (open_column known bytes) (λ c. steps halved bytes c id))

-- the probes of that, none where the bytes are not opened
unfoldable pub opened_probes : List ℕ → ℕ → Outcome Opened → ℕ
opened_probes bytes id (done c) = step_probes bytes c id
opened_probes bytes id (refused why w) = 0

unfoldable pub look_up_probes : List Edition → List ℕ → ℕ → ℕ
look_up_probes known bytes id = opened_probes bytes id (open_column known bytes)

-- From a column that was opened before, or any numbers in its place: 14; 10 where they break a header rule; 11 where they do not
-- fit these bytes; 15. (Not in document 01: docs/DECISIONS.md.) Its probes are `step_probes`.
unfoldable pub look_up_in : List ℕ → Opened → ℕ → Outcome Look
look_up_in bytes c id =
    need (leb id max_id) ID 0
    (need (head_ok c.head) HEADER 0
    (need (length_ok bytes c) LENGTH 0
    (steps halved bytes c id)))
