-- Document 02, [6] (Lucene 9): numbers of w bits each, packed into bytes low bit first. Value i starts at bit iw, its lowest bit first,
-- and bit j has weight 2 ^ (j mod 8) in byte j div 8. Assumes nothing.
use Rattle.std.specs.Prelude.{◌+◌, ◌*◌, ◌/◌, ◌%◌, ◌^◌}
use Rattle.format.specs.Kit.{ℕ, zero, suc, List, length, get_or}
use Rattle.format.specs.Bits.{tabulate, packed_bytes}

-- bit j of the numbers xs of w bits each, written one after the other, low bit first; 0 past the end
unfoldable pub bit_low : ℕ → List ℕ → ℕ → ℕ
bit_low w xs j = get_or xs (j / w) 0 / 2 ^ (j % w) % 2

-- bit j of a byte string
unfoldable pub bit_low_at : List ℕ → ℕ → ℕ
bit_low_at s j = get_or s (j / 8) 0 / 2 ^ (j % 8) % 2

-- the number whose bits, the lowest first, are f j, f (j + 1), .., f (j + n - 1)
unfoldable pub gather_low : (ℕ → ℕ) → ℕ → ℕ → ℕ
gather_low f j zero = 0
gather_low f j (suc n) = f j + 2 * gather_low f (suc j) n

-- the numbers xs packed: byte k has bits 8k to 8k + 7; spare bits are 0, and nothing follows the last byte
unfoldable pub packed_low : ℕ → List ℕ → List ℕ
packed_low w xs = tabulate (packed_bytes (length xs) w) (λ k. gather_low (bit_low w xs) (k * 8) 8)

-- number i of w bits in the byte string s
unfoldable pub fetched_low : List ℕ → ℕ → ℕ → ℕ
fetched_low s w i = gather_low (bit_low_at s) (i * w) w
