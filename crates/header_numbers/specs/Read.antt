-- What reading a header number at a place finds, with places counted from the bytes' front. Assumes nothing.
use Rattle.std.specs.Prelude.{◌+◌, ◌*◌, Ok, Err}
use Rattle.std.specs.declared.result.Result.{Result}
use Rattle.format.specs.Kit.{ℕ, Bool, cond, not, eqb}
use Rattle.format.specs.HeaderNumbers.{Got, got, short, bad}
use Rattle.header_numbers.specs.declared.Number.{Number}
use Rattle.header_numbers.specs.declared.NumberFault.{NumberFault}
use Rattle.header_numbers.specs.declared.NumberFault.TheVariants.{Short, Bad}

-- the number v, with the place after it
abbrev pub number_is : ℕ → ℕ → Result Number NumberFault
number_is v next = Ok (record { value = v; next = next })

abbrev pub number_of : ℕ → Got → Result Number NumberFault
number_of at (got v k) = number_is v (at + k)
number_of at short = Err Short
number_of at (bad k) = Err (Bad (at + k))

-- the same in mid-number: what is read counts `scale` times and stands above `sum`, which the bytes before gave
abbrev pub number_on : ℕ → ℕ → ℕ → Got → Result Number NumberFault
number_on scale sum at (got v k) = number_is (sum + scale * v) (at + k)
number_on scale sum at short = Err Short
number_on scale sum at (bad k) = Err (Bad (at + k))

-- the byte b after k bytes that go on, one at least: it decides that they are no number
abbrev pub decides_at : ℕ → ℕ → Bool
decides_at k b = cond (eqb k 9) (not (eqb b 1)) (eqb b 0)
