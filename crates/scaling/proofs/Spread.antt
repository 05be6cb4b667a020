-- What is worked out of the biased forms is the values' scale. Assumes nothing.
use Rattle.format.specs.Kit.{◌≡◌, sym, ap, ap₂, ◌∙◌, List, ℕ, ◌+◌, ◌-◌, ◌≤◌, ◌<◌, add-one, arith, eq-eqb, ne_eqb, T, ℤ, pos, length, get_or, le_z}
use Rattle.format.specs.Kit.{drop_of_length-le, drop-cons}
use Rattle.format.specs.HeaderNumbers.{zigzag}
use Rattle.format.specs.Values.{smallest, greatest, over, spread, gcd, gcd_from, differences, divisor}
use Rattle.format.specs.Pairs.{Each, Fits}
use Rattle.laws.proofs.Values.{each_at, smallest_each}
use Rattle.laws.proofs.Fits.{fits_size, smallest_fits, greatest_fits}
use Rattle.signed.specs.Sign.{biased, unbiased}
use Rattle.signed.proofs.Signs.{biased_le, biased_over, unbiased_biased}
use Rattle.scaling.specs.Scaled.{EndsOf, gcd_at}
use Rattle.scaling.proofs.Part.{ValueAt}

module _ (vs : List ℤ) (t : Each Fits vs) (i : ℕ) (h : i < length vs) where
  -- no value is below the smallest
  pub low_le : biased (smallest vs) ≤ biased (get_or vs i (pos 0))
  low_le = biased_le (smallest vs) (get_or vs i (pos 0)) (each_at (λ v. T (le_z (smallest vs) v)) vs i (pos 0) (smallest_each vs) h)

  -- and its difference to the smallest is that of the biased forms
  pub over_at : (b l : ℕ) → b ≡ biased (get_or vs i (pos 0)) → l ≡ biased (smallest vs) → b - l ≡ over (smallest vs) (get_or vs i (pos 0))
  over_at b l eb el =
      rw (eb, el)
      (sym (biased_over (smallest vs) (get_or vs i (pos 0)) (fits_size _ (smallest_fits vs t)) (fits_size _ (each_at Fits vs i (pos 0) t h)) low_le))

-- the spread is the difference of the biased ends
pub spread_is : {vs : List ℤ} {l h : ℕ} → EndsOf vs l h → h - l ≡ spread vs
unfolding spread
spread_is {vs} {l} {h} e =
    let o : biased (smallest vs) ≤ biased (greatest vs) = omega (arith, e.low, e.high, e.order) in
    let d : over (smallest vs) (greatest vs) ≡ biased (greatest vs) - biased (smallest vs) =
    biased_over (smallest vs) (greatest vs) (fits_size _ (smallest_fits vs e.fit)) (fits_size _ (greatest_fits vs e.fit)) o in
    omega (arith, e.low, e.high)

-- value i, and those after it
gcd_next : (g i : ℕ) (vs : List ℤ) → i < length vs → gcd_at g i vs ≡ gcd_at (gcd g (over (smallest vs) (get_or vs i (pos 0)))) (i + 1) vs
unfolding gcd_from
gcd_next g i vs h = rw (add-one, drop-cons vs i (pos 0))

-- the same, biased
pub low_at : {vs : List ℤ} {i b l : ℕ} → l ≡ biased (smallest vs) → Each Fits vs → ValueAt vs i b → l ≤ b
low_at {vs} {i} e t r = omega (arith, e, r.is, low_le vs t i r.inside)

pub gcd_more : {vs : List ℤ} {i j b l : ℕ} (g : ℕ) → l ≡ biased (smallest vs) → Each Fits vs → ValueAt vs i b → j ≡ i + 1
    → gcd_at g i vs ≡ gcd_at (gcd g (b - l)) j vs
gcd_more {vs} {i} {j} {b} {l} g e t r k =
    gcd_next g i vs r.inside
    ∙ ap₂ (λ (x n : ℕ). gcd_at (gcd g x) n vs) (sym (over_at vs t i r.inside b l r.is e)) (sym k)

pub gcd_none : (g i : ℕ) (vs : List ℤ) → length vs ≤ i → gcd_at g i vs ≡ g
unfolding gcd_from
gcd_none g i vs h = rw drop_of_length-le

pub divisor_equal : (vs : List ℤ) → spread vs ≡ 0 → 1 ≡ divisor vs
unfolding divisor
divisor_equal vs e = rw (eq-eqb (spread vs) 0 e)

pub divisor_else : (vs : List ℤ) → (spread vs ≡ 0 → ⊥) → gcd_from 0 (differences vs) ≡ divisor vs
unfolding divisor
divisor_else vs e = rw (ne_eqb (spread vs) 0 e)

pub smallest_is : (vs : List ℤ) (l : ℕ) → l ≡ biased (smallest vs) → Each Fits vs → zigzag (unbiased l) ≡ zigzag (smallest vs)
smallest_is vs l e t = ap zigzag (ap unbiased e ∙ unbiased_biased (smallest vs) (fits_size _ (smallest_fits vs t)))
