-- The values of stored numbers, four at once and all that a buffer has so far. Assumes nothing.
use Rattle.std.specs.Prelude.{◌≡◌, ◌∷◌, ◌+◌, ◌*◌, ◌^◌, ◌≤◌, ◌<◌}
use Rattle.format.specs.Kit.{true, List, [], ℕ, ℤ, length, drop}
use Rattle.format.specs.HeaderNumbers.{unzigzag}
use Rattle.format.specs.Pairs.{Each, Fits}
use Rattle.format.specs.Codec.{Fields, scaled}
use Rattle.format.specs.Stores.{Fill}
use Rattle.signed.specs.Sign.{biased, unbiased}
use Rattle.packings.specs.declared.Order.{Order}
use Rattle.packings.specs.Packings.{packing_of, cut}
use Rattle.scaled_values.specs.Held.{values_from, numbers_in}

-- the values of the first four numbers of w bits in a long
abbrev pub four_of : Order → ℕ → ℕ → ℕ → ℕ → List ℤ
four_of o low step x w =
    unbiased (low + cut o x 0 w * step)
    ∷ unbiased (low + cut o x w w * step)
    ∷ unbiased (low + cut o x (2 * w) w * step)
    ∷ unbiased (low + cut o x (3 * w) w * step)
    ∷ []

-- none of them wraps
pub record FourFit (o : Order) (low step x w : ℕ) : Type 0 where
  pub first : low + cut o x 0 w * step < 2 ^ 64
  pub second : low + cut o x w w * step < 2 ^ 64
  pub third : low + cut o x (2 * w) w * step < 2 ^ 64
  pub fourth : low + cut o x (3 * w) w * step < 2 ^ 64

-- all n values of the section fit
abbrev pub AllFit : Order → ℕ → Fields → List ℕ → Type 0
AllFit o n f s = Each Fits (values_from f (numbers_in o f.width n s))

-- e is d with the first i of them stored from its front on
abbrev pub FilledTo : Order → ℕ → Fields → List ℕ → List ℤ → List ℤ → ℕ → Type 0
FilledTo o n f s d e i = Fill d 0 (values_from f (numbers_in o f.width n s)) e i (values_from f (drop i (numbers_in o f.width n s)))

-- what the reading by eights is handed: a section that keeps the header rules, room for its values, and the fields' numbers by themselves
pub record Eights (o : Order) (n : ℕ) (f : Fields) (s : List ℕ) (room w low step : ℕ) : Type 0 where
  pub rules : (scaled (packing_of o)).fields_ok n f (length s) ≡ true
  pub enough : n ≤ room
  pub fit : AllFit o n f s
  pub width_is : w ≡ f.width
  pub some : 0 < w
  pub narrow : w ≤ 14
  pub low_is : low ≡ biased (unzigzag f.smallest)
  pub small : f.smallest < 2 ^ 64
  pub step_is : step ≡ f.divisor
