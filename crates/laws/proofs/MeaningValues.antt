-- That the definitions of values mean the documents' words where a reader could doubt it: smallest and greatest, the greatest common
-- divisor of the differences (document 02, [2]), the numbers stored, the least width. Assumes nothing.
use Rattle.format.specs.Kit.{◌≡◌, refl, sym, ap, ap₂, ◌∙◌, subst, List, [], ◌∷◌, map, ℕ, suc, ◌*◌, ◌/◌, ◌^◌, ◌<◌, ◌≤◌, ◌∣◌, dvd-zero, one-dvd}
use Rattle.format.specs.Kit.{dvd_antisymm, mul-zero, mul-one, mul-div_cancel', zero-div, eq_of_mul-eq-mul_left, arith, T, ℤ, pos, nat_abs, ◌+ℤ◌}
use Rattle.format.specs.Kit.{zero-le, +ℤ_invr, +ℤ_idr, le_z, length, get_or, List·getD-map, eq-eqb, ne_eqb}
use Rattle.format.specs.Values.{smallest, greatest, over, spread, gcd_from, differences, divisor, stored, stored_with, bits_in, bit_length, width, width_with}
use Rattle.format.specs.Pairs.{Below, Each}
use Rattle.laws.proofs.Bits.{below_at}
use Rattle.laws.proofs.Values.{each_map, each_two, smallest_each, smallest_has, most_has, greatest_each, spread_each, over_back}
use Rattle.laws.proofs.Values.{dvd_between, divides_each, gcd_from_smallest, length_stored, length_stored_with, stored_below, bit_length_lem}
use Rattle.laws.proofs.Values.{bit_length_le}
use Rattle.laws.proofs.Gcd.{DividesEach, dvd_gcd_from, gcd_From_scaled, each_number}
use Rattle.laws.proofs.Bounds.{divisor_pos}
use Rattle.laws.proofs.Scaled.{get_d_any}

-- ---- smallest and greatest

-- x stands in the list
abbrev pub Among : ℤ → List ℤ → Type 0
Among x vs = (i : ℕ) × (i < length vs) × (get_or vs i (pos 0) ≡ x)

each_among : (vs : List ℤ) → Each (λ x. Among x vs) vs
each_among [] = tt
each_among (v ∷ vs) = ((0, omega arith, refl), each_map (λ x a. (suc a.0, omega (arith, a.1), a.2)) vs (each_among vs))

-- the smallest is at most each value, and one of them; the greatest likewise
pub smallest_least : (vs : List ℤ) → Each (λ v. T (le_z (smallest vs) v)) vs
smallest_least = smallest_each

pub smallest_among : (v : ℤ) (vs : List ℤ) → Among (smallest (v ∷ vs)) (v ∷ vs)
smallest_among v vs = smallest_has (λ x. Among x (v ∷ vs)) v vs (each_among (v ∷ vs))

pub greatest_most : (vs : List ℤ) → Each (λ v. T (le_z v (greatest vs))) vs
greatest_most = greatest_each

pub greatest_has : (P : ℤ → Type 0) (v : ℤ) (vs : List ℤ) → Each P (v ∷ vs) → P (greatest (v ∷ vs))
unfolding greatest
greatest_has P v vs t = most_has P v vs t.0 t.1

pub greatest_among : (v : ℤ) (vs : List ℤ) → Among (greatest (v ∷ vs)) (v ∷ vs)
greatest_among v vs = greatest_has (λ x. Among x (v ∷ vs)) v vs (each_among (v ∷ vs))

-- ---- the divisor

-- all values are equal exactly if max - min is 0
abbrev pub AllEqual : List ℤ → Type 0
AllEqual vs = Each (λ v. v ≡ smallest vs) vs

over_self : (m : ℤ) → over m m ≡ 0
over_self m = ap nat_abs (+ℤ_invr m)

pub equal_spread : (vs : List ℤ) → AllEqual vs → spread vs ≡ 0
unfolding spread smallest greatest
equal_spread [] t = over_self (pos 0)
equal_spread (v ∷ vs) t =
    ap (over (smallest (v ∷ vs))) (greatest_has (λ x. x ≡ smallest (v ∷ vs)) v vs t) ∙ over_self (smallest (v ∷ vs))

spread_equal : (vs : List ℤ) → spread vs ≡ 0 → AllEqual vs
spread_equal vs e =
    each_two (λ v l k. same v l (omega (arith, k))) vs (smallest_each vs) (spread_each vs)
  where
    same : (v : ℤ) → T (le_z (smallest vs) v) → over (smallest vs) v ≡ 0 → v ≡ smallest vs
    same v l z = sym (over_back (smallest vs) v l) ∙ ap (λ (n : ℕ). smallest vs +ℤ pos n) z ∙ +ℤ_idr (smallest vs)

-- if all values are equal: g 1, w 0
pub equal_divisor : (vs : List ℤ) → AllEqual vs → divisor vs ≡ 1
unfolding divisor
equal_divisor vs t = rw (eq-eqb (spread vs) 0 (equal_spread vs t))

pub equal_width : (vs : List ℤ) → AllEqual vs → width vs ≡ 0
unfolding width width_with bit_length bits_in
equal_width vs t = rw (equal_divisor vs t, equal_spread vs t)

-- otherwise it is the greatest common divisor of the differences (document 02, [2])
other_divisor : (vs : List ℤ) → (AllEqual vs → ⊥) → divisor vs ≡ gcd_from 0 (differences vs)
unfolding divisor
other_divisor vs k = rw (ne_eqb (spread vs) 0 (λ e. k (spread_equal vs e)))

-- g divides the difference of each two values
pub divides_differences : (vs : List ℤ) → Each (λ u. Each (λ v. divisor vs ∣ over u v) vs) vs
divides_differences vs =
    each_map (λ u h. each_map (λ v k. dvd_between (divisor vs) (smallest vs) u v h k) vs (divides_each vs)) vs (divides_each vs)

-- and where not all values are equal, each number that does so divides g
pub divided_by_differences : (vs : List ℤ) (d : ℕ) → (AllEqual vs → ⊥) → Each (λ u. Each (λ v. d ∣ over u v) vs) vs → d ∣ divisor vs
unfolding differences
divided_by_differences [] d k t = absurd (k tt)
divided_by_differences (v ∷ vs) d k t =
    subst (λ (g : ℕ). d ∣ g) (sym (other_divisor (v ∷ vs) k))
    (dvd_gcd_from d 0 (differences (v ∷ vs)) (dvd-zero d) (each_number d (over v) (v ∷ vs) t.0))

-- ---- the stored numbers

-- they are exactly (v - min) / g, with no remainder, by any g that divides the differences: for a run of edition 3 that is the column's (document 02, [11])
pub no_remainder_by : (g : ℕ) (vs : List ℤ) → Each (λ v. g ∣ over (smallest vs) v) vs → map (λ x. g * x) (stored_with g vs) ≡ map (over (smallest vs)) vs
unfolding stored_with
no_remainder_by g vs = go (smallest vs) vs
  where
    go : (m : ℤ) (l : List ℤ) → Each (λ v. g ∣ over m v) l → map (λ x. g * x) (map (λ v. over m v / g) l) ≡ map (over m) l
    go m [] t = refl
    go m (v ∷ l) t = ap₂ {C = List ℕ} (λ (x : ℕ) (r : List ℕ). x ∷ r) (mul-div_cancel' g t.0) (go m l t.1)

pub no_remainder : (vs : List ℤ) → map (λ x. divisor vs * x) (stored vs) ≡ map (over (smallest vs)) vs
unfolding stored
no_remainder vs = no_remainder_by (divisor vs) vs (divides_each vs)

stored_gcd : (vs : List ℤ) → (AllEqual vs → ⊥) → gcd_from 0 (stored vs) ≡ 1
stored_gcd vs k =
    let g : ℕ = divisor vs in
    let same : g * gcd_from 0 (stored vs) ≡ g =
    sym (gcd_From_scaled g 0 (stored vs))
    ∙ ap₂ gcd_from (mul-zero g) (no_remainder vs) ∙ gcd_from_smallest vs ∙ sym (other_divisor vs k) in
    eq_of_mul-eq-mul_left g (divisor_pos vs) (gcd_from 0 (stored vs)) 1 (same ∙ sym (mul-one g))

-- where not all values are equal, no number but 1 divides them all
pub stored_apart : (vs : List ℤ) (d : ℕ) → (AllEqual vs → ⊥) → DividesEach d (stored vs) → d ≡ 1
stored_apart vs d k t =
    dvd_antisymm (subst (λ (n : ℕ). d ∣ n) (stored_gcd vs k) (dvd_gcd_from d 0 (stored vs) (dvd-zero d) t)) (one-dvd d)

-- and 0 is among them
pub zero_stored : (v : ℤ) (vs : List ℤ) → (i : ℕ) × (i < length (stored (v ∷ vs))) × (get_or (stored (v ∷ vs)) i 0 ≡ 0)
unfolding stored stored_with
zero_stored v vs =
    let m : ℤ = smallest (v ∷ vs) in
    let g : ℕ = divisor (v ∷ vs) in
    let a = smallest_among v vs in
    let f : ℤ → ℕ = λ u. over m u / g in
    let at : a.0 < length (stored (v ∷ vs)) = omega (arith, length_stored (v ∷ vs), a.1) in (
      a.0,
      at,
      get_d_any (stored (v ∷ vs)) a.0 0 (f (pos 0)) at ∙ List·getD-map f (v ∷ vs) a.0 (pos 0)
          ∙ ap f a.2 ∙ ap (λ (n : ℕ). n / g) (over_self m) ∙ zero-div g,
    )

-- ---- the width: the least w with (max - min) / g < 2 ^ w, by the column's own g (`width`), and in a run of edition 3 by the whole column's

pub width_holds : (g : ℕ) (vs : List ℤ) → spread vs / g < 2 ^ width_with g vs
unfolding width_with
width_holds g vs = bit_length_lem (spread vs / g)

pub width_least : (g : ℕ) (vs : List ℤ) (w : ℕ) → spread vs / g < 2 ^ w → width_with g vs ≤ w
unfolding width_with
width_least g vs w h = bit_length_le (spread vs / g) w h

-- the same of the stored numbers: each has w bits, and there is no less w of which this holds
pub stored_fit : (g : ℕ) (vs : List ℤ) → 0 < g → Below (2 ^ width_with g vs) (stored_with g vs)
stored_fit = stored_below

pub stored_least : (g : ℕ) (vs : List ℤ) (w : ℕ) → Below (2 ^ w) (stored_with g vs) → width_with g vs ≤ w
unfolding stored_with width_with spread bit_length bits_in smallest greatest
stored_least g [] w t = rw (over_self (pos 0), zero-div g) zero-le
stored_least g (v ∷ vs) w t =
    let l : List ℤ = v ∷ vs in
    let f : ℤ → ℕ = λ u. over (smallest l) u / g in
    let a = greatest_among v vs in
    let at : a.0 < length (stored_with g l) = omega (arith, length_stored_with g l, a.1) in
    let top : get_or (stored_with g l) a.0 0 ≡ spread l / g =
    get_d_any (stored_with g l) a.0 0 (f (pos 0)) at ∙ List·getD-map f l a.0 (pos 0) ∙ ap f a.2 in
    width_least g l w (subst (λ (n : ℕ). n < 2 ^ w) top (below_at (2 ^ w) (stored_with g l) a.0 t at))
