-- What the tests say, each by itself, and the numbers' fold in three. Assumes nothing.
use Rattle.format.specs.Kit.{◌≡◌, refl, List, [], ◌∷◌, ℕ, min, max}
use Rattle.format.specs.Values.{gcd, gcd_from}
use Rattle.format.specs.Codec.{Fields}
use Rattle.packings.specs.declared.Order.{Order}
use Rattle.scaled_check.specs.ValuesOk.{range_ok, numbers_ok}
use Rattle.scaling.specs.Numbers.{least_from, most_from}

-- ---- the numbers in a section

pub numbers_are : (o : Order) (h : Fields) (lo hi d : ℕ) (xs : List ℕ)
    → numbers_ok o h lo hi d xs ≡ range_ok o h (least_from lo xs) (most_from hi xs) (gcd_from d xs)
unfolding numbers_ok least_from most_from gcd_from
numbers_are o h lo hi d [] = refl
numbers_are o h lo hi d (x ∷ xs) = numbers_are o h (min lo x) (max hi x) (gcd d x) xs
