-- What the functions that go over the stored numbers hand each other. Assumes nothing.
use Rattle.std.specs.Prelude.{◌≡◌, ◌-◌, ◌^◌, ◌≤◌, ◌<◌}
use Rattle.format.specs.Kit.{Bool, true, List, ℕ, length, drop}
use Rattle.format.specs.Limits.{max_count}
use Rattle.format.specs.Values.{fits64}
use Rattle.format.specs.Codec.{Fields, scaled}
use Rattle.packings.specs.declared.Order.{Order}
use Rattle.packings.specs.Packings.{packing_of, narrower_by}
use Rattle.scaled_values.specs.Held.{numbers_in, value_from}
use Rattle.scaling.specs.declared.Range.{Range}
use Rattle.scaled_check.specs.ValuesOk.{numbers_ok}

-- a section that keeps the header rules, and whose numbers have bits
pub record Numbered (o : Order) (n : ℕ) (f : Fields) (s : List ℕ) : Type 0 where
  pub few : n ≤ max_count
  pub rules : (scaled (packing_of o)).fields_ok n f (length s) ≡ true
  pub some : 0 < f.width

-- whether all numbers that the width holds would fit, and the least that needs it
pub record Known (o : Order) (f : Fields) (sure : Bool) (top : ℕ) : Type 0 where
  pub small : f.smallest < 2 ^ 64
  pub sure_is : sure ≡ fits64 (value_from f (2 ^ f.width - 1))
  pub top_is : top ≡ 2 ^ narrower_by o f.width

-- the answer by the numbers from i on, where lo, hi and g are the least, the greatest and the common divisor of those before
abbrev pub ok_from : Order → ℕ → Fields → List ℕ → ℕ → ℕ → ℕ → ℕ → Bool
ok_from o n f s i lo hi g = numbers_ok o f lo hi g (drop i (numbers_in o f.width n s))

abbrev pub ranged : Order → ℕ → Fields → List ℕ → ℕ → Range → Bool
ranged o n f s i r = ok_from o n f s i r.lo r.hi r.common
