-- Ids in a row. Assumes nothing.
use Rattle.std.specs.Prelude.{◌+◌, ◌-◌, ◌*◌, ◌/◌, ◌^◌, ◌≤◌, ◌<◌, ◌≡◌, ◌∷◌, ◌++◌}
use Rattle.format.specs.Kit.{ℕ, zero, suc, List, [], ones_in, count_trailing_zeros}
use Rattle.format.specs.Limits.{block_places}
use Rattle.format.specs.Bytes.{low_at}
use Rattle.next_in_block.specs.First.{entry_in}

-- k ids from id on
unfoldable pub up_from : ℕ → ℕ → List ℕ
up_from id zero = []
up_from id (suc k) = id ∷ up_from (suc id) k

-- ---- entries of a sparse block at t

-- the ids of n entries from j on
unfoldable pub entries_from : List ℕ → ℕ → ℕ → ℕ → ℕ → List ℕ
entries_from s t b j zero = []
entries_from s t b j (suc n) = (b * block_places + entry_in s t j) ∷ entries_from s t b (suc j) n

-- n entries from j on are places of a block, the first is r or above, and each is above the one before
abbrev pub Rising : List ℕ → ℕ → ℕ → ℕ → ℕ → Type 0
Rising s t r j zero = r ≡ r
Rising s t r j (suc n) = (r ≤ entry_in s t j) × (entry_in s t j < block_places) × Rising s t (suc (entry_in s t j)) (suc j) n

-- the entries from j on rise up to entry k, which is the last one asked for or does not; where k is j, entry j is below r
pub record RisesTo (s : List ℕ) (t r j end k : ℕ) : Type 0 where
  pub from : j ≤ k
  pub most : k ≤ end
  pub rises : Rising s t r j (k - j)
  pub none : k ≡ j → j < end → entry_in s t j < r

-- ---- bits of a long of a dense block

-- the ids of the first n bits of `rest`, which has those from place r of block b on
unfoldable pub bits_from : ℕ → ℕ → ℕ → ℕ → List ℕ
bits_from b r rest zero = []
bits_from b r rest (suc n) =
    let z : ℕ = count_trailing_zeros 64 rest in
    (b * block_places + (r + z)) ∷ bits_from b (suc (r + z)) (rest / 2 ^ (z + 1)) n

-- these bits are there, and are places of a block
abbrev pub BitsIn : ℕ → ℕ → ℕ → Type 0
BitsIn r rest zero = r ≡ r
BitsIn r rest (suc n) =
    let z : ℕ = count_trailing_zeros 64 rest in
    (z < 64) × (r + z < block_places) × BitsIn (suc (r + z)) (rest / 2 ^ (z + 1)) n

-- ---- bits of longs that follow each other, which stand at m

-- long k, from place r on
abbrev pub bits_at : List ℕ → ℕ → ℕ → ℕ → ℕ
bits_at s m k r = low_at 8 s (m + 8 * k) / 2 ^ (r - 64 * k)

-- the ids of n longs from long k on, those of long k from place r on
unfoldable pub longs_from : List ℕ → ℕ → ℕ → ℕ → ℕ → ℕ → List ℕ
longs_from s m b zero k r = []
longs_from s m b (suc n) k r = bits_from b r (bits_at s m k r) (ones_in 64 (bits_at s m k r)) ++ longs_from s m b n (suc k) (64 * suc k)

-- how many they are
unfoldable pub ones_ahead : List ℕ → ℕ → ℕ → ℕ → ℕ → ℕ
ones_ahead s m zero k r = 0
ones_ahead s m (suc n) k r = ones_in 64 (bits_at s m k r) + ones_ahead s m n (suc k) (64 * suc k)

-- the place after them
abbrev pub place_after : ℕ → ℕ → ℕ → ℕ
place_after zero k r = r
place_after (suc n) k r = 64 * (k + suc n)
