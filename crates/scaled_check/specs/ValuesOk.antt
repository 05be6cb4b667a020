-- The tests of a value section of one smallest value, divisor and width, by a packing (document 01, "Value section"; document 02, [2]),
-- given n and the header's fields, which keep the header rules.
-- Assumes nothing.
use Rattle.std.specs.Prelude.{◌-◌, ◌*◌, ◌^◌, ◌&&◌, ◌||◌, ◌∷◌}
use Rattle.format.specs.Kit.{ℕ, min, max, Bool, cond, List, [], length, leb, eqb}
use Rattle.format.specs.Values.{fits64, gcd}
use Rattle.format.specs.Codec.{Fields}
use Rattle.packings.specs.declared.Order.{Order}
use Rattle.packings.specs.Packings.{narrower_by, spare_ok}
use Rattle.scaled_values.specs.Held.{numbers_in, value_from}

-- Stored numbers of which lo is the least, hi the greatest and d the greatest common divisor: 0 is among them, so the smallest value is
-- there; the width is the least; no number above 1 divides them all, so the divisor is exact; every value fits.
unfoldable pub range_ok : Order → Fields → ℕ → ℕ → ℕ → Bool
range_ok o f lo hi d = eqb lo 0 && leb (2 ^ narrower_by o f.width) hi && eqb d 1 && fits64 (value_from f hi)

unfoldable pub numbers_ok : Order → Fields → ℕ → ℕ → ℕ → List ℕ → Bool
numbers_ok o f lo hi d [] = range_ok o f lo hi d
numbers_ok o f lo hi d (x ∷ xs) = numbers_ok o f (min lo x) (max hi x) (gcd d x) xs

-- width 0: all values are equal, or there is none
unfoldable pub equal_ok : ℕ → Fields → Bool
equal_ok n f = eqb f.divisor 1 && (leb 1 (n) || eqb f.smallest 0)

-- any other width
unfoldable pub spread_ok : Order → ℕ → Fields → List ℕ → Bool
spread_ok o n f s = spare_ok o s (8 * length s - n * f.width) && numbers_ok o f (2 ^ f.width - 1) 0 0 (numbers_in o f.width n s)

unfoldable pub values_ok : Order → ℕ → Fields → List ℕ → Bool
values_ok o n f s = cond (eqb f.width 0) (equal_ok n f) (spread_ok o n f s)
