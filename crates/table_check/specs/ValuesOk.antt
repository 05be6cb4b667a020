-- The tests of a value section of edition 4 (document 02, [12]), given n and the header's fields, which keep the header rules: the small check,
-- made from the table and the codes. Assumes nothing.
use Rattle.std.specs.Prelude.{◌-◌, ◌*◌, ◌&&◌, ◌||◌, ◌∷◌}
use Rattle.format.specs.Kit.{ℕ, zero, suc, Bool, true, false, List, [], length, drop, ltb, eqb, ℤ}
use Rattle.format.specs.Bytes.{low_at, untwos}
use Rattle.format.specs.Bits.{unpacked}
use Rattle.format.specs.Codec.{Fields}
use Rattle.format.specs.Table.{ascends}
use Rattle.packings.specs.declared.Order as Od
use Rattle.packings.specs.Packings.{spare_ok}
use Rattle.table_values.specs.Saves.{saves}

-- k entries of the table that a section begins with, i and on
unfoldable pub entries_from : ℕ → ℕ → List ℕ → List ℤ
entries_from i zero s = []
entries_from i (suc k) s = untwos (low_at 8 s (8 * i)) ∷ entries_from (suc i) k s

-- each code is below t
unfoldable pub below_all : ℕ → List ℕ → Bool
below_all t [] = true
below_all t (c ∷ cs) = ltb c t && below_all t cs

-- k is one of the codes
unfoldable pub one_of : List ℕ → ℕ → Bool
one_of [] k = false
one_of (c ∷ cs) k = eqb c k || one_of cs k

-- and so are all numbers below t
unfoldable pub used_all : ℕ → List ℕ → Bool
used_all zero cs = true
used_all (suc k) cs = one_of cs k && used_all k cs

-- n codes of w bits each, for t entries
unfoldable pub codes_ok : ℕ → ℕ → ℕ → List ℕ → Bool
codes_ok n w t rest =
    spare_ok Od.Order.High rest (8 * length rest - n * w) && below_all t (unpacked w n rest) && used_all t (unpacked w n rest)

unfoldable pub values_ok : ℕ → Fields → List ℕ → Bool
values_ok n f s =
    let us : List ℤ = entries_from 0 f.divisor s in
    ascends us && saves us n && codes_ok n f.width f.divisor (drop (8 * f.divisor) s)
