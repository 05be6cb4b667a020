-- The code's packings as the definitions' own, and what the code asks of each: the width before another, where the bits of a word stand,
-- the spare bits. Assumes nothing.
use Rattle.std.specs.Prelude.{◌+◌, ◌-◌, ◌*◌, ◌/◌, ◌%◌, ◌^◌, ◌≤◌}
use Rattle.format.specs.Kit.{ℕ, Bool, cond, List, length, get_or, leb, eqb}
use Rattle.format.specs.Bits.{gather}
use Rattle.format.specs.BitsLow.{gather_low}
use Rattle.format.specs.Codec.{Packing}
use Rattle.format.specs.Editions.{high_first, low_first}
use Rattle.packings.specs.declared.Order as Od

abbrev pub packing_of : Od.Order → Packing
packing_of Od.Order.High = high_first
packing_of Od.Order.Low = low_first

-- ---- widths

-- the least of Lucene 9's widths that is at least b, for a b up to 64
unfoldable pub listed_from : ℕ → ℕ
listed_from b = cond (leb b 2) b (cond (leb b 32) ((b + 3) / 4 * 4) ((b + 7) / 8 * 8))

-- the one before w
unfoldable pub listed_before : ℕ → ℕ
listed_before w = cond (leb w 2) (w - 1) (cond (leb w 4) 2 (cond (leb w 32) (w - 4) (w - 8)))

-- the next narrower width
abbrev pub narrower_by : Od.Order → ℕ → ℕ
narrower_by Od.Order.High w = w - 1
narrower_by Od.Order.Low w = listed_before w

-- ---- bits

-- the number of bits that come one after the other
abbrev pub gather_by : Od.Order → (ℕ → ℕ) → ℕ → ℕ → ℕ
gather_by Od.Order.High = gather
gather_by Od.Order.Low = gather_low

-- how far a number's bits may go after the first skip ones of a byte: low bit first not past eight bytes
abbrev pub Reach : Od.Order → ℕ → ℕ → Type 0
Reach Od.Order.High skip w = w ≤ 64
Reach Od.Order.Low skip w = skip + w ≤ 64

-- n bits of a long, after its first a
abbrev pub cut : Od.Order → ℕ → ℕ → ℕ → ℕ
cut Od.Order.High x a n = x / 2 ^ (64 - a - n) % 2 ^ n
cut Od.Order.Low x a n = x / 2 ^ a % 2 ^ n

-- the last k bits of a byte
abbrev pub last_bits : Od.Order → ℕ → ℕ → ℕ
last_bits Od.Order.High x k = x % 2 ^ k
last_bits Od.Order.Low x k = x / 2 ^ (8 - k)

-- the spare bits, which are the last ones of the last byte, are 0
unfoldable pub spare_ok : Od.Order → List ℕ → ℕ → Bool
spare_ok o s spare = eqb (last_bits o (get_or s (length s - 1) 0) spare) 0
