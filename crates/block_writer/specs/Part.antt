-- What the functions over one block's ids say. Assumes nothing.
use Rattle.std.specs.Prelude.{◌≡◌, ◌++◌, ◌+◌, ◌*◌, ◌/◌, ◌%◌, ◌^◌, ◌≤◌}
use Rattle.format.specs.Kit.{List, map, ℕ, length, get_or, drop}
use Rattle.format.specs.Limits.{block_places, bitmap_bytes}
use Rattle.format.specs.Bytes.{low}
use Rattle.format.specs.Ids.{Run, rank_table, bitmap}
use Rattle.format.specs.Pairs.{Asc}
use Rattle.format.specs.Runs.{bits_above}

-- the places of the ids from index m on
unfoldable pub places_from : List ℕ → ℕ → List ℕ
places_from xs m = map (λ x. x % block_places) (drop m xs)

-- the run that ids of one block are
abbrev pub run_of : List ℕ → Run
run_of xs = record { block = get_or xs 0 0 / block_places; places = places_from xs 0 }

-- the bits of the places from index m on, of which the lowest stands for place 64 k
abbrev pub bits_from : List ℕ → ℕ → ℕ → ℕ
bits_from xs m k = bits_above (64 * k) (places_from xs m)

-- the ids from index m on are in word k or later
pub record From (xs : List ℕ) (m k : ℕ) : Type 0 where
  pub inside : m ≤ length xs
  pub ascending : Asc (64 * k) (places_from xs m)

-- n words from word k on are made of the ids from m on, up to `next`
pub record Gone (xs : List ℕ) (m k n next : ℕ) : Type 0 where
  pub from : From xs next (k + n)
  pub rest : bits_from xs next (k + n) ≡ bits_from xs m k / 2 ^ (64 * n)

-- a dense block's data
abbrev pub bits_of : ℕ → List ℕ → List ℕ
bits_of p rs = rank_table p rs ++ low bitmap_bytes (bitmap rs)
