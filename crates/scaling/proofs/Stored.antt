-- Values that are m + g x, for stored numbers x: their smallest and greatest, their divisor, and that they fit. Assumes nothing.
use Rattle.format.specs.Kit.{◌≡◌, refl, sym, ap, ap₂, ◌∙◌, cond, List, [], ◌∷◌, map, ℕ, suc, ◌+◌, ◌-◌, ◌*◌, ◌^◌, ◌<◌, ◌≤◌, min, max, mul-zero, mul-le-mul_left}
use Rattle.format.specs.Kit.{le_of_mul-le-mul_left, arith, leb, ℤ, pos, negsuc, nat_abs, sub_ℕ, ◌+ℤ◌, ◌-ℤ◌, +ℤ_comm, +ℤ_idr, +ℤ-neg_ℤ_cancel, mag, le_z, lt-ltb}
use Rattle.format.specs.Kit.{le-ltb, le-leb, lt-leb}
use Rattle.format.specs.Values.{least_of, most_of, smallest, over, gcd_from, differences, value_at}
use Rattle.format.specs.Pairs.{Each, Fits}
use Rattle.laws.proofs.Cases.{below_or}
use Rattle.laws.proofs.Gcd.{gcd_From_scaled}
use Rattle.laws.proofs.Values.{gcd_from_smallest}
use Rattle.laws.proofs.Fits.{fits_size, size_fits}
use Rattle.signed.specs.Sign.{biased}
use Rattle.scaling.specs.Numbers.{least_from, most_from}
use Rattle.signed.proofs.Signs.{biased-+, biased-+-out}

-- ---- the order

leb_same : (a b c d : ℕ) → (a ≤ b → c ≤ d) → (c ≤ d → a ≤ b) → leb c d ≡ leb a b
leb_same a b c d f g =
    below_or b a
    (λ h. below_or d c (λ k. rw (lt-leb a b h, lt-leb c d k)) (λ k. absurd (omega (arith, g k))))
    (λ h. rw (le-leb a b h, le-leb c d (f h)))

le_Z_sub : (n a b : ℕ) → le_z (sub_ℕ a n) (sub_ℕ b n) ≡ leb a b
le_Z_sub n a b =
    below_or a n
    (λ h. below_or b n
    (λ k. rw (lt-ltb a n h, lt-ltb b n k) (leb_same a b (n - suc b) (n - suc a) (λ l. omega arith) (λ l. omega arith)))
    (λ k. rw (lt-ltb a n h, le-ltb b n k, le-leb a b (omega arith))))
    (λ h. below_or b n
    (λ k. rw (le-ltb a n h, lt-ltb b n k, lt-leb a b (omega arith)))
    (λ k. rw (le-ltb a n h, le-ltb b n k) (leb_same a b (a - n) (b - n) (λ l. omega arith) (λ l. omega arith))))

le_Z_add : (m : ℤ) (a b : ℕ) → le_z (m +ℤ pos a) (m +ℤ pos b) ≡ leb a b
le_Z_add (pos n) a b = leb_same a b (n + a) (n + b) (λ l. omega arith) (λ l. omega arith)
le_Z_add (negsuc n) a b = le_Z_sub (suc n) a b

-- ---- the greatest number

pub most_first : (a : ℕ) (xs : List ℕ) → a ≤ most_from a xs
unfolding most_from
most_first a [] = omega arith
most_first a (x ∷ xs) = omega (arith, most_first (max a x) xs)

-- ---- m + g x

module _ (m : ℤ) (g : ℕ) (p : 0 < g) where
  abbrev v : ℕ → ℤ
  v x = value_at m g x

  pub over_value : (x : ℕ) → over m (v x) ≡ g * x
  unfolding value_at
  over_value x = ap nat_abs (ap (λ (z : ℤ). z -ℤ m) (+ℤ_comm m (pos (g * x))) ∙ +ℤ-neg_ℤ_cancel (pos (g * x)) m)

  pub value_zero : v 0 ≡ m
  unfolding value_at
  value_zero = ap (λ (n : ℕ). m +ℤ pos n) (mul-zero g) ∙ +ℤ_idr m

  order : (a b : ℕ) → le_z (v a) (v b) ≡ leb a b
  unfolding value_at
  order a b = le_Z_add m (g * a) (g * b) ∙ leb_same a b (g * a) (g * b) (λ l. mul-le-mul_left g l) (λ l. le_of_mul-le-mul_left l p)

  lesser : (a b : ℕ) → cond (le_z (v a) (v b)) (v a) (v b) ≡ v (min a b)
  lesser a b =
      below_or b a
      (λ h. let e : b ≡ min a b = omega arith in rw (order a b, lt-leb a b h) (ap v e))
      (λ h. let e : a ≡ min a b = omega arith in rw (order a b, le-leb a b h) (ap v e))

  greater : (a b : ℕ) → cond (le_z (v a) (v b)) (v b) (v a) ≡ v (max a b)
  greater a b =
      below_or b a
      (λ h. let e : a ≡ max a b = omega arith in rw (order a b, lt-leb a b h) (ap v e))
      (λ h. let e : b ≡ max a b = omega arith in rw (order a b, le-leb a b h) (ap v e))

  pub least_value : (a : ℕ) (xs : List ℕ) → least_of (v a) (map v xs) ≡ v (least_from a xs)
  unfolding least_of least_from
  least_value a [] = refl
  least_value a (x ∷ xs) = ap (λ (z : ℤ). least_of z (map v xs)) (lesser a x) ∙ least_value (min a x) xs

  pub most_value : (a : ℕ) (xs : List ℕ) → most_of (v a) (map v xs) ≡ v (most_from a xs)
  unfolding most_of most_from
  most_value a [] = refl
  most_value a (x ∷ xs) = ap (λ (z : ℤ). most_of z (map v xs)) (greater a x) ∙ most_value (max a x) xs

  -- ---- the divisor

  differences_value : (xs : List ℕ) → map (over m) (map v xs) ≡ map (λ x. g * x) xs
  differences_value [] = refl
  differences_value (x ∷ xs) = ap₂ {C = List ℕ} (λ (n : ℕ) (l : List ℕ). n ∷ l) (over_value x) (differences_value xs)

  -- the divisor of the values, of which m is the smallest, is g times that of the stored numbers
  pub common_value : (xs : List ℕ) → smallest (map v xs) ≡ m → gcd_from 0 (differences (map v xs)) ≡ g * gcd_from 0 xs
  common_value xs e =
      sym (gcd_from_smallest (map v xs))
      ∙ ap (λ (z : ℤ). gcd_from 0 (map (over z) (map v xs))) e
      ∙ ap₂ gcd_from (sym (mul-zero g)) (differences_value xs)
      ∙ gcd_From_scaled g 0 xs

  -- ---- the values fit

  pub fits_below : (x y : ℕ) → Fits m → Fits (v y) → x ≤ y → Fits (v x)
  unfolding value_at
  fits_below x y a b h =
      let k : g * x ≤ g * y = mul-le-mul_left g h in
      let f : mag m < 2 ^ 63 = fits_size m a in
      below_or (biased m + g * y) (2 ^ 64)
      (λ l. size_fits _ (biased-+ m (g * x) f (omega arith)).0)
      (λ l. absurd (omega (arith, fits_size _ b, biased-+-out m (g * y) f l)))

  pub each_fits : (y : ℕ) (xs : List ℕ) → Fits m → Fits (v (most_from y xs)) → Each Fits (map v xs)
  unfolding most_from
  each_fits y [] a b = tt
  each_fits y (x ∷ xs) a b =
      (fits_below x (most_from (max y x) xs) a b (omega (arith, most_first (max y x) xs)), each_fits (max y x) xs a b)
