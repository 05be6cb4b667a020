-- The pair with an ordinal: the look-up's steps the other way round. They fix the answer for any bytes, and the first step that fails decides
-- it. (Not in document 02: docs/DECISIONS.md.) Assumes nothing.
use Rattle.std.specs.Prelude.{◌+◌, ◌-◌, ◌*◌, ◌/◌, ◌%◌, ◌^◌, ◌&&◌, ◌||◌}
use Rattle.format.specs.Kit.{ℕ, zero, suc, cond, not, List, Option, none, some, length, get_or, leb, ltb, eqb}
use Rattle.format.specs.Kit.{ℤ, pos}
use Rattle.format.specs.Limits.{max_block, block_places}
use Rattle.format.specs.Refusals.{Outcome, done, and_then, need, given, HEADER, LENGTH, BROKEN}
use Rattle.format.specs.Bytes.{low_at, high_at}
use Rattle.format.specs.Ids.{Entry, kind_of, by_kind, rank_bytes, block_bytes}
use Rattle.format.specs.Editions.{Edition}
use Rattle.format.specs.Pairs.{Pairs}
use Rattle.format.specs.Column.{Head}
use Rattle.format.specs.Opening.{Opened, open_column, head_ok, length_ok, id_part, value_of}
use Rattle.format.specs.LookUp.{stride_rank, entries_at, entry_at}
use Rattle.format.specs.Next.{Candidate, candidate_at, no_candidate}

-- ---- halving

-- Of f lo to f hi (hi not included): probe (lo + hi) div 2; at or below x moves lo to the probe, above x moves hi to it; one that is left is
-- the answer. At most k probes.
unfoldable pub last_in : ℕ → (ℕ → ℕ) → ℕ → ℕ → ℕ → ℕ
last_in zero f x lo hi = lo
last_in (suc k) f x lo hi =
    let m : ℕ = (lo + hi) / 2 in
    let above : ℕ = last_in k f x m hi in
    let below : ℕ = last_in k f x lo m in
    let probed : ℕ = cond (leb (f m) x) above below in
    cond (ltb (suc lo) hi) probed lo

-- of f 0 to f (n - 1), where they ascend and f 0 is at or below x: the last that is
unfoldable pub last_up_to : (ℕ → ℕ) → ℕ → ℕ → ℕ
last_up_to f x n = last_in n f x 0 n

-- ---- within a block: the place with index i, or none, which is BROKEN

-- of k places, x and on, in the longs at m: the one whose bit is set after j others
unfoldable pub bit_after : List ℕ → ℕ → ℕ → ℕ → ℕ → Option ℕ
bit_after s m zero x j = none
bit_after s m (suc k) x j =
    let bit : ℕ = low_at 8 s (m + 8 * (x / 64)) / 2 ^ (x % 64) % 2 in
    let later : Option ℕ = bit_after s m k (suc x) (j - bit) in
    cond (eqb bit 1 && eqb j 0) (some x) later

-- dense, with data at t: the last stride whose rank is at or below i, and there the place whose bit is set after i - rank others; without ranks
-- the block is one stride, rank 0
unfoldable pub dense_with : ℕ → List ℕ → ℕ → ℕ → Option ℕ
dense_with p s t i =
    let stride : ℕ = cond (eqb p 0) 0 (last_up_to (λ q. high_at 2 s (t + 2 * q)) i (2 ^ (16 - p))) in
    let x : ℕ = stride * 2 ^ p in
    let rank : ℕ = stride_rank p s t x in
    cond (leb rank i) (bit_after s (t + rank_bytes p) (cond (eqb p 0) block_places (2 ^ p)) x (i - rank)) none

-- a block of c ids, with data at t: sparse, entry i; all, place i
unfoldable pub place_with : ℕ → List ℕ → ℕ → ℕ → ℕ → Option ℕ
place_with p s t c i = by_kind (kind_of c) (some (low_at 2 s (t + 2 * i))) (dense_with p s t i) (some i)

-- ---- the steps

-- From entry number b, which is (o, s): steps 2 and 4 of the look-up; the block's number is b (any within the limit, if J = 0), and the
-- ordinal is one of the block's; then the place with its index there; then step 7.
unfoldable pub pair_from : List ℕ → Opened → ℕ → ℕ → Entry → Outcome Candidate
pair_from bytes col ordinal b e =
    let h : Head = col.head in
    let s : List ℕ = id_part bytes col in
    let k : ℕ = low_at 2 s e.1 in
    let c : ℕ = low_at 2 s (e.1 + 2) + 1 in
    need (leb (e.1 + 4) (entries_at h)) BROKEN 0
    (need (leb k max_block && (eqb h.jump_count 0 || eqb k b)) BROKEN 0
    (need (leb (e.1 + block_bytes h.power c) (entries_at h) && leb (e.0 + c) h.count) BROKEN 0
    (need (leb e.0 ordinal && ltb ordinal (e.0 + c)) BROKEN 0
    (and_then (given (place_with h.power s (e.1 + 4) c (ordinal - e.0)) BROKEN 0) (λ r.
    and_then (given (value_of bytes col ordinal) BROKEN 0) (λ v.
    done (candidate_at (k * block_places + r) ordinal v)))))))

-- an ordinal of n or more has no pair; otherwise from the last jump entry whose ordinal is at or below it (with none, from the first block)
unfoldable pub pair_steps : List ℕ → Opened → ℕ → Outcome Candidate
pair_steps bytes col ordinal =
    let h : Head = col.head in
    let s : List ℕ = id_part bytes col in
    let b : ℕ = last_up_to (λ j. low_at 4 s (entries_at h + 8 * j)) ordinal h.jump_count in
    let pair : Outcome Candidate = pair_from bytes col ordinal b (entry_at s (entries_at h) h.jump_count b) in
    cond (ltb ordinal h.count) pair (done no_candidate)

-- ---- the calls

-- 7 to 11, then 15
unfoldable pub pair_at : List Edition → List ℕ → ℕ → Outcome Candidate
pair_at known bytes ordinal = and_then (open_column known bytes) (λ c. pair_steps bytes c ordinal)

-- from a column that was opened before, or any numbers in its place: 10, 11, then 15
unfoldable pub pair_at_in : List ℕ → Opened → ℕ → Outcome Candidate
pair_at_in bytes c ordinal =
    need (head_ok c.head) HEADER 0
    (need (length_ok bytes c) LENGTH 0
    (pair_steps bytes c ordinal))

-- ---- on accepted columns: the plain pair list's own pair

unfoldable pub list_pair : Pairs → ℕ → Candidate
list_pair q ordinal = cond (ltb ordinal (length q.ids)) (candidate_at (get_or q.ids ordinal 0) ordinal (get_or q.values ordinal (pos 0))) no_candidate
