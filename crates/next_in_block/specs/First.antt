-- The first place of a block, from a place on, that is not absent (document 02, [1], within one block). Assumes nothing.
use Rattle.std.specs.Prelude.{◌+◌, ◌-◌, ◌*◌, ◌/◌, ◌%◌, ◌^◌, ◌≤◌, ◌<◌, ◌≡◌}
use Rattle.format.specs.Kit.{ℕ, zero, suc, List, drop, ones_in}
use Rattle.format.specs.Limits.{block_places}
use Rattle.format.specs.Bytes.{low_at}
use Rattle.format.specs.Ids.{rank_bytes}
use Rattle.format.specs.IdsRead.{shorts}
use Rattle.format.specs.LookUp.{Place, inside, nowhere, broken, scan, in_sparse, ones_from, stride_long, stride_rank}
use Rattle.next_in_block.specs.declared.First as Fi

-- a place that is there, with its index in the block; none; or a failed step
pub data Met : Type 0 where
  meets : ℕ → ℕ → Met
  meets_none : Met
  fails : Met

-- what place x gives, where the places above it give `more`
unfoldable pub meets_by : ℕ → Place → Met → Met
meets_by x (inside i w) more = meets x i
meets_by x (nowhere w) more = more
meets_by x broken more = fails

-- k places, x and on
unfoldable pub first_in : ℕ → (ℕ → Place) → ℕ → Met
first_in zero f x = meets_none
first_in (suc k) f x =
    let more : Met = first_in k f (suc x) in
    meets_by x (f x) more

-- ---- sparse

-- step 5 at any place: document 01's scan of the c entries at t
abbrev pub scan_at : List ℕ → ℕ → ℕ → ℕ → Place
scan_at s t c x = in_sparse (scan x 0 (shorts c (drop t s)))

-- entry k of those at t
abbrev pub entry_in : List ℕ → ℕ → ℕ → ℕ
entry_in s t k = low_at 2 s (t + 2 * k)

-- the entries before i, of c, are below r
pub record Below (s : List ℕ) (t c r i : ℕ) : Type 0 where
  pub most : i ≤ c
  pub before : (k : ℕ) → k < i → entry_in s t k < r

-- i is the first entry that is r or above, or c
pub record FirstEntry (s : List ℕ) (t c r i : ℕ) : Type 0 where
  pub passed : Below s t c r i
  pub from : i < c → r ≤ entry_in s t i

-- ---- dense

-- place y's bit, in the longs at m
abbrev pub bit_in : List ℕ → ℕ → ℕ → ℕ
bit_in s m y = low_at 8 s (m + 8 * (y / 64)) / 2 ^ (y % 64) % 2

-- r is the first set bit of the long from b on, or 64 or above
pub record FirstBit (long b r : ℕ) : Type 0 where
  pub from : b ≤ r
  pub most : r ≤ b + 64
  pub clear : (j : ℕ) → b ≤ j → j < r → long / 2 ^ j % 2 ≡ 0
  pub is_set : r < 64 → long / 2 ^ r % 2 ≡ 1

-- x is the first place from r on whose bit is set, or all places
pub record FirstOne (s : List ℕ) (m r x : ℕ) : Type 0 where
  pub from : r ≤ x
  pub most : x ≤ block_places
  pub clear : (y : ℕ) → r ≤ y → y < x → bit_in s m y ≡ 0
  pub is_set : x < block_places → bit_in s m x ≡ 1

-- step 6's inner place
abbrev pub inner_in : ℕ → List ℕ → ℕ → ℕ → ℕ
inner_in p s t r =
    stride_rank p s t r + ones_from s (t + rank_bytes p) (r / 64 - stride_long p r) (stride_long p r)
    + ones_in 64 (low_at 8 s (t + rank_bytes p + 8 * (r / 64)) % 2 ^ (r % 64))

-- ---- the code's answer

abbrev pub first_of : Fi.First → Met
first_of (Fi.First.At x i) = meets x i
first_of Fi.First.Nothing = meets_none
first_of Fi.First.Broken = fails

-- a place of the block, and an index below its count
abbrev pub Within : ℕ → Fi.First → Type 0
Within c (Fi.First.At x i) = (x < block_places) × (i < c)
Within c Fi.First.Nothing = Unit
Within c Fi.First.Broken = Unit
