-- Document 02, [9]: an id section in either byte order. It is that of document 01 with shorts, ints and longs low byte first, as Lucene 9
-- writes them, or high byte first, as Lucene 8 does. Rank entries are high byte first in both. Assumes nothing.
use Rattle.std.specs.Prelude.{◌-◌, ◌^◌, ◌∷◌, ◌++◌}
use Rattle.format.specs.Kit.{ℕ, zero, suc, List, [], length, take, drop}
use Rattle.format.specs.Limits.{bitmap_longs, end_number}
use Rattle.format.specs.Bytes.{digits, low, from_low, high, from_high, bytes_of}
use Rattle.format.specs.Ids.{Run, Entry, runs, kind_of, by_kind, rank_table, bitmap, jumps}

-- the byte that comes first
pub data Order : Type 0 where
  low_byte high_byte : Order

-- ---- numbers

-- k bytes of n
abbrev pub bytes_in : Order → ℕ → ℕ → List ℕ
bytes_in low_byte k n = low k n
bytes_in high_byte k n = high k n

abbrev pub number_in : Order → List ℕ → ℕ
number_in low_byte bs = from_low bs
number_in high_byte bs = from_high bs

-- the number of k bytes that stands at a place
unfoldable pub fixed_at : Order → ℕ → List ℕ → ℕ → ℕ
fixed_at o k s at = number_in o (take k (drop at s))

-- c numbers of k bytes each, one after the other
unfoldable pub numbers_in : Order → ℕ → ℕ → List ℕ → List ℕ
numbers_in o k zero s = []
numbers_in o k (suc c) s = number_in o (take k s) ∷ numbers_in o k c (drop k s)

-- ---- the section

-- the 1024 longs of a bitmap, whose digits of 64 bits they are: place x is bit x mod 64 of long x div 64
unfoldable pub longs_in : Order → ℕ → List ℕ
longs_in o m = bytes_of (bytes_in o 8) (digits (2 ^ 64) bitmap_longs m)

-- places as shorts; rank table and longs; nothing
unfoldable pub block_data_in : Order → ℕ → List ℕ → List ℕ
block_data_in o p rs = by_kind (kind_of (length rs)) (bytes_of (bytes_in o 2) rs) (rank_table p rs ++ longs_in o (bitmap rs)) []

-- the head: block number and count - 1 as two shorts
unfoldable pub block_in : Order → ℕ → Run → List ℕ
block_in o p g = bytes_in o 2 g.block ++ bytes_in o 2 (length g.places - 1) ++ block_data_in o p g.places

-- the end block: number 32767, and the one place 65535
unfoldable pub end_in : Order → List ℕ
end_in o = bytes_in o 2 end_number ++ bytes_in o 2 0 ++ bytes_in o 2 65535

unfoldable pub entry_in : Order → Entry → List ℕ
entry_in o e = bytes_in o 4 e.0 ++ bytes_in o 4 e.1

unfoldable pub id_section_in : Order → ℕ → List ℕ → List ℕ
id_section_in o p ids = bytes_of (block_in o p) (runs ids) ++ (end_in o ++ bytes_of (entry_in o) (jumps p ids))
