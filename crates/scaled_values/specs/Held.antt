-- The numbers that a section holds, by a packing, and the values that they stand for, by the header's fields. Assumes nothing.
use Rattle.format.specs.Kit.{List, map, ℕ, ℤ}
use Rattle.format.specs.HeaderNumbers.{unzigzag}
use Rattle.format.specs.Bits.{tabulate}
use Rattle.format.specs.Values.{value_at}
use Rattle.format.specs.Codec.{Fields}
use Rattle.packings.specs.declared.Order.{Order}
use Rattle.packings.specs.Packings.{packing_of}

-- the n numbers of w bits that s holds
unfoldable pub numbers_in : Order → ℕ → ℕ → List ℕ → List ℕ
numbers_in o w n s = tabulate n ((packing_of o).fetch s w)

abbrev pub value_from : Fields → ℕ → ℤ
value_from f x = value_at (unzigzag f.smallest) f.divisor x

unfoldable pub values_from : Fields → List ℕ → List ℤ
values_from f xs = map (value_from f) xs
