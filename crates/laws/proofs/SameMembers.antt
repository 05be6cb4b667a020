-- Lists with the same members have the same smallest and greatest value and the same divisor, and so the same header fields in every edition with
-- one smallest value, divisor and width: what edition 1 would say of values can be told from their table. Assumes nothing.
use Rattle.format.specs.Kit.{◌≡◌, refl, sym, ap, ap₂, ◌∙◌, subst, List, [], ◌∷◌, map, ℕ, ◌/◌, ◌∣◌, dvd-zero, dvd_antisymm, arith, eqb, cond, T}
use Rattle.format.specs.Kit.{leb→le, ℤ, pos, negsuc, le_z}
use Rattle.format.specs.HeaderNumbers.{zigzag}
use Rattle.format.specs.Values.{smallest, greatest, over, spread, gcd_from, differences, divisor}
use Rattle.format.specs.Pairs.{Each}
use Rattle.format.specs.Codec.{Packing, scaled}
use Rattle.laws.proofs.Values.{smallest_each, smallest_has, greatest_each, gcd_from_smallest}
use Rattle.laws.proofs.Gcd.{gcd_From_each, dvd_gcd_from, each_value, each_number}
use Rattle.laws.proofs.MeaningValues.{greatest_has}
use Rattle.laws.proofs.Ascending.{In, in_or, in_first, in_more, in_none}

-- ---- each of a list, and each member

pub each_in : (P : ℤ → Type 0) (vs : List ℤ) → Each P vs → (x : ℤ) → In vs x → P x
each_in P [] t x e = in_none x e
each_in P (v ∷ vs) t x e = in_or v vs x e (λ s. subst P s t.0) (λ s. each_in P vs t.1 x s)

pub in_each : (P : ℤ → Type 0) (vs : List ℤ) → ((x : ℤ) → In vs x → P x) → Each P vs
in_each P [] f = tt
in_each P (v ∷ vs) f = (f v (in_first vs v), in_each P vs (λ x e. f x (in_more v vs x e)))

le_antisymm : (a b : ℤ) → T (le_z a b) → T (le_z b a) → a ≡ b
le_antisymm (pos a) (pos b) h k = let e : a ≡ b = omega (arith, leb→le a b h, leb→le b a k) in ap (λ (n : ℕ). pos n) e
le_antisymm (pos a) (negsuc b) h k = absurd h
le_antisymm (negsuc a) (pos b) h k = absurd k
le_antisymm (negsuc a) (negsuc b) h k = let e : a ≡ b = omega (arith, leb→le b a h, leb→le a b k) in ap (λ (n : ℕ). negsuc n) e

-- ---- one way: what every member of the second is of the first

module _ (u : ℤ) (us : List ℤ) (v : ℤ) (vs : List ℤ) (f : (x : ℤ) → In (v ∷ vs) x → In (u ∷ us) x) where
  smallest_le : T (le_z (smallest (u ∷ us)) (smallest (v ∷ vs)))
  smallest_le =
      each_in (λ x. T (le_z (smallest (u ∷ us)) x)) (u ∷ us) (smallest_each (u ∷ us)) _
      (f _ (smallest_has (In (v ∷ vs)) v vs (in_each (In (v ∷ vs)) (v ∷ vs) (λ x e. e))))

  greatest_ge : T (le_z (greatest (v ∷ vs)) (greatest (u ∷ us)))
  greatest_ge =
      each_in (λ x. T (le_z x (greatest (u ∷ us)))) (u ∷ us) (greatest_each (u ∷ us)) _
      (f _ (greatest_has (In (v ∷ vs)) v vs (in_each (In (v ∷ vs)) (v ∷ vs) (λ x e. e))))

  gcd_divides : (m : ℤ) → gcd_from 0 (map (over m) (u ∷ us)) ∣ gcd_from 0 (map (over m) (v ∷ vs))
  gcd_divides m =
      let k : ℕ = gcd_from 0 (map (over m) (u ∷ us)) in
      let each : Each (λ x. k ∣ over m x) (u ∷ us) = each_value k (over m) (u ∷ us) (gcd_From_each 0 (map (over m) (u ∷ us))) in
      dvd_gcd_from k 0 (map (over m) (v ∷ vs)) (dvd-zero k)
      (each_number k (over m) (v ∷ vs) (in_each (λ x. k ∣ over m x) (v ∷ vs) (λ x e. each_in (λ x. k ∣ over m x) (u ∷ us) each x (f x e))))

-- ---- both ways

module _ (u : ℤ) (us : List ℤ) (v : ℤ) (vs : List ℤ) (f : (x : ℤ) → In (v ∷ vs) x → In (u ∷ us) x) (g : (x : ℤ) → In (u ∷ us) x → In (v ∷ vs) x) where
  same_smallest : smallest (u ∷ us) ≡ smallest (v ∷ vs)
  same_smallest = le_antisymm _ _ (smallest_le u us v vs f) (smallest_le v vs u us g)

  same_greatest : greatest (u ∷ us) ≡ greatest (v ∷ vs)
  same_greatest = le_antisymm _ _ (greatest_ge v vs u us g) (greatest_ge u us v vs f)

  same_spread : spread (u ∷ us) ≡ spread (v ∷ vs)
  unfolding spread
  same_spread = ap₂ over same_smallest same_greatest

  same_divisor : divisor (u ∷ us) ≡ divisor (v ∷ vs)
  unfolding divisor
  same_divisor =
      let m : ℤ = smallest (u ∷ us) in
      let e : gcd_from 0 (differences (u ∷ us)) ≡ gcd_from 0 (differences (v ∷ vs)) =
      sym (gcd_from_smallest (u ∷ us)) ∙ dvd_antisymm (gcd_divides u us v vs f m) (gcd_divides v vs u us g m)
      ∙ ap (λ (z : ℤ). gcd_from 0 (map (over z) (v ∷ vs))) same_smallest ∙ gcd_from_smallest (v ∷ vs) in
      ap₂ (λ (s d : ℕ). cond (eqb s 0) 1 d) same_spread e

pub same_fields : (k : Packing) (us vs : List ℤ) → ((x : ℤ) → In vs x → In us x) → ((x : ℤ) → In us x → In vs x) → (scaled k).fields us ≡ (scaled k).fields vs
unfolding scaled
same_fields k [] [] f g = refl
same_fields k [] (v ∷ vs) f g = in_none v (f v (in_first vs v))
same_fields k (u ∷ us) [] f g = in_none u (g u (in_first us u))
same_fields k (u ∷ us) (v ∷ vs) f g =
    let s : spread (u ∷ us) ≡ spread (v ∷ vs) = same_spread u us v vs f g in
    let d : divisor (u ∷ us) ≡ divisor (v ∷ vs) = same_divisor u us v vs f g in
    (λ i. record { width = k.width_for (s i / d i); smallest = zigzag (same_smallest u us v vs f g i); divisor = d i })
