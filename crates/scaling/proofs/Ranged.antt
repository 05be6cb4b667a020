-- What a list of stored numbers says of the values m + g x: smallest, spread, divisor. Assumes nothing.
use Rattle.format.specs.Kit.{◌≡◌, refl, sym, ap, ap₂, ◌∙◌, List, [], ◌∷◌, map, ℕ, ◌*◌, ◌/◌, ◌<◌, ◌≤◌, min, max, mul-zero, mul-div_cancel_left}
use Rattle.format.specs.Kit.{eq_of_mul-eq-mul_left, arith, ℤ, eq-eqb, ne_eqb}
use Rattle.format.specs.Values.{smallest, greatest, over, spread, gcd_from, divisor, stored_with, stored, value_at}
use Rattle.format.specs.Pairs.{Below}
use Rattle.scaling.specs.Numbers.{least_from, most_from}
use Rattle.scaling.proofs.Stored.{over_value, value_zero, least_value, most_value, common_value}

pub most_below : (b a : ℕ) (xs : List ℕ) → a < b → Below b xs → most_from a xs < b
unfolding most_from
most_below b a [] h t = h
most_below b a (x ∷ xs) h t = most_below b (max a x) xs (omega (arith, t.0)) t.1

pub least_le : (a : ℕ) (xs : List ℕ) → least_from a xs ≤ a
unfolding least_from
least_le a [] = omega arith
least_le a (x ∷ xs) = omega (arith, least_le (min a x) xs)

-- ---- at least one value

module _ (m : ℤ) (g : ℕ) (p : 0 < g) (x : ℕ) (xs : List ℕ) where
  abbrev vs : List ℤ
  vs = map (value_at m g) (x ∷ xs)

  abbrev lo : ℕ
  lo = least_from x xs

  abbrev hi : ℕ
  hi = most_from x xs

  smallest_is : smallest vs ≡ value_at m g lo
  unfolding smallest
  smallest_is = least_value m g p x xs

  pub greatest_is : greatest vs ≡ value_at m g hi
  unfolding greatest
  greatest_is = most_value m g p x xs

  -- the smallest value is there exactly if 0 is stored
  pub zero_there : lo ≡ 0 → smallest vs ≡ m
  zero_there e = smallest_is ∙ ap (value_at m g) e ∙ value_zero m g p

  pub zero_needed : smallest vs ≡ m → lo ≡ 0
  zero_needed e =
      let a : over m (value_at m g lo) ≡ over m (value_at m g 0) = ap (over m) (sym smallest_is ∙ e ∙ sym (value_zero m g p)) in
      eq_of_mul-eq-mul_left g p lo 0 (sym (over_value m g p lo) ∙ a ∙ over_value m g p 0)

  pub spread_is : lo ≡ 0 → spread vs ≡ g * hi
  unfolding spread
  spread_is e = ap₂ over (zero_there e) greatest_is ∙ over_value m g p hi

  pub divisor_equal : lo ≡ 0 → hi ≡ 0 → divisor vs ≡ 1
  unfolding divisor
  divisor_equal e f =
      let a : spread vs ≡ 0 = spread_is e ∙ ap (λ (n : ℕ). g * n) f ∙ mul-zero g in
      rw (eq-eqb (spread vs) 0 a)

  -- g is the divisor exactly if no number above 1 divides all that is stored
  pub divisor_spread : lo ≡ 0 → 0 < hi → divisor vs ≡ g * gcd_from 0 (x ∷ xs)
  unfolding divisor
  divisor_spread e f =
      rw (ne_eqb (spread vs) 0 (λ z. absurd (omega (arith, eq_of_mul-eq-mul_left g p hi 0 (sym (spread_is e) ∙ z ∙ sym (mul-zero g))))))
      (common_value m g p (x ∷ xs) (zero_there e))

  pub over_is : lo ≡ 0 → spread vs / g ≡ hi
  over_is e = ap (λ (n : ℕ). n / g) (spread_is e) ∙ mul-div_cancel_left hi p

  pub stored_is : smallest vs ≡ m → stored_with g vs ≡ x ∷ xs
  unfolding stored_with
  stored_is e = ap {B = List ℕ} (λ (n : ℤ). map (λ v. over n v / g) vs) e ∙ go (x ∷ xs)
    where
      go : (l : List ℕ) → map (λ v. over m v / g) (map (value_at m g) l) ≡ l
      go [] = refl
      go (y ∷ l) = ap₂ {C = List ℕ} (λ (a : ℕ) (r : List ℕ). a ∷ r) (ap (λ (n : ℕ). n / g) (over_value m g p y) ∙ mul-div_cancel_left y p) (go l)

  -- the same with the values' own divisor, where that is g
  pub own_over : lo ≡ 0 → divisor vs ≡ g → spread vs / divisor vs ≡ hi
  own_over e d = ap (λ (k : ℕ). spread vs / k) d ∙ over_is e

  pub own_stored : smallest vs ≡ m → divisor vs ≡ g → stored vs ≡ x ∷ xs
  unfolding stored
  own_stored e d = ap (λ (k : ℕ). stored_with k vs) d ∙ stored_is e
