-- What `Ends` and `Scale` say of the values. Assumes nothing.
use Rattle.std.specs.Prelude.{◌≡◌, ◌/◌, ◌≤◌}
use Rattle.format.specs.Kit.{List, map, ℕ, ℤ, length, drop}
use Rattle.format.specs.HeaderNumbers.{zigzag}
use Rattle.format.specs.Values.{least_of, most_of, smallest, greatest, over, spread, gcd_from, divisor}
use Rattle.format.specs.Pairs.{Each, Fits}
use Rattle.signed.specs.Sign.{biased, unbiased}
use Rattle.scaling.specs.declared.Scale.{Scale}

-- the smallest and the greatest of vs, biased
pub record EndsOf (vs : List ℤ) (l h : ℕ) : Type 0 where
  pub low : l ≡ biased (smallest vs)
  pub high : h ≡ biased (greatest vs)
  pub order : l ≤ h
  pub fit : Each Fits vs

-- l and h are the ends of the values before i
pub record EndsAt (vs : List ℤ) (i l h : ℕ) : Type 0 where
  pub within : i ≤ length vs
  pub low : least_of (unbiased l) (drop i vs) ≡ smallest vs
  pub high : most_of (unbiased h) (drop i vs) ≡ greatest vs
  pub order : l ≤ h
  pub fit : Each Fits (drop i vs) → Each Fits vs

-- the greatest common divisor of g and the differences to the smallest value, from value i on
abbrev pub gcd_at : ℕ → ℕ → List ℤ → ℕ
gcd_at g i vs = gcd_from g (map (over (smallest vs)) (drop i vs))

-- the scale of vs
pub record Scaled (vs : List ℤ) (s : Scale) : Type 0 where
  pub smallest_is : s.smallest ≡ zigzag (smallest vs)
  pub divisor_is : s.divisor ≡ divisor vs
  pub most_is : s.most ≡ spread vs / divisor vs
  pub fit : Each Fits vs
