-- The divisor of values in runs: what the smallest values' distances and the stored numbers say of it. Assumes nothing.
use Rattle.format.specs.Kit.{◌≡◌, sym, ap, ◌∙◌, subst, true, cond, List, [], ◌∷◌, ◌++◌, map, ℕ, ◌*◌, ◌/◌, ◌%◌, ◌<◌, ◌≤◌, ◌∣◌, dvd_refl, dvd-zero, dvd_trans}
use Rattle.format.specs.Kit.{dvd_antisymm, mul-one, mul-zero, mul-div_cancel', mod-one, arith, eqb, eqb-true, eq-eqb, ne_eqb, mul_comm, div-add-mod'}
use Rattle.format.specs.Kit.{eq_of_mul-eq-mul_left, ℤ, length, length-append, get_or, ◌&&◌, ◌||◌}
use Rattle.format.specs.Values.{smallest, greatest, over, spread, gcd, gcd_from, differences, divisor, stored_with}
use Rattle.format.specs.Pairs.{Each}
use Rattle.laws.proofs.Cases.{equal_or}
use Rattle.laws.proofs.Tests.{both_true, true_both, or_left, or_right}
use Rattle.laws.proofs.Gcd.{gcd_is, gcd_zero, gcd_From_first, gcd_From_each, dvd_gcd_from, gcd_From_scaled, DividesEach, each_value, each_number}
use Rattle.laws.proofs.Values.{each_map, to_other, gcd_from_smallest, over_sym, dvd_between, spread_each, most_has, smallest_has}
use Rattle.run_check.specs.RunsOk.{divisor_ok}

-- ---- the values' divisor, by the greatest common divisor of their differences

abbrev common : List ℤ → ℕ
common vs = gcd_from 0 (map (over (smallest vs)) vs)

-- 1 where that is 0, since all values are equal
abbrev pub or_one : ℕ → ℕ
or_one n = cond (eqb n 0) 1 n

zero_dvd : (n : ℕ) → 0 ∣ n → n ≡ 0
zero_dvd n h = dvd_antisymm (dvd-zero n) h

all_zero : (m : ℤ) (vs : List ℤ) → Each (λ v. over m v ≤ 0) vs → gcd_from 0 (map (over m) vs) ≡ 0
all_zero m vs t = zero_dvd _ (dvd_gcd_from 0 0 (map (over m) vs) (dvd_refl 0) (each_number 0 (over m) vs (each_map (λ v h. null v h) vs t)))
  where
    null : (v : ℤ) → over m v ≤ 0 → 0 ∣ over m v
    null v h = let z : 0 ≡ over m v = omega arith in subst (λ (n : ℕ). 0 ∣ n) z (dvd_refl 0)

common_spread : (vs : List ℤ) → common vs ∣ spread vs
unfolding spread greatest smallest
common_spread [] = dvd-zero _
common_spread (v ∷ vs) =
    let t = each_value (common (v ∷ vs)) (over (smallest (v ∷ vs))) (v ∷ vs) (gcd_From_each 0 (map (over (smallest (v ∷ vs))) (v ∷ vs))) in
    most_has (λ u. common (v ∷ vs) ∣ over (smallest (v ∷ vs)) u) v vs t.0 t.1

pub divisor_by : (vs : List ℤ) → divisor vs ≡ or_one (gcd_from 0 (differences vs))
unfolding divisor
divisor_by vs =
    equal_or (spread vs) 0
    (λ z.
    let none : gcd_from 0 (differences vs) ≡ 0 =
    sym (gcd_from_smallest vs) ∙ all_zero (smallest vs) vs (each_map (λ v h. omega arith) vs (spread_each vs)) in
    rw (eq-eqb (spread vs) 0 z, none))
    (λ z.
    let some : gcd_from 0 (differences vs) ≡ 0 → ⊥ =
    λ e. z (zero_dvd (spread vs) (subst (λ (n : ℕ). n ∣ spread vs) (gcd_from_smallest vs ∙ e) (common_spread vs))) in
    rw (ne_eqb (spread vs) 0 z, ne_eqb (gcd_from 0 (differences vs)) 0 some))

-- ---- runs, one after the other

unfoldable pub joined : List (List ℤ) → List ℤ
joined [] = []
joined (r ∷ rs) = r ++ joined rs

abbrev pub EachRun : (List ℤ → Type 0) → List (List ℤ) → Type 0
EachRun P [] = Unit {0}
EachRun P (r ∷ rs) = P r × EachRun P rs

-- with a, the greatest common divisor of the smallest values' distances to a base
abbrev pub apart_in : ℤ → ℕ → List (List ℤ) → ℕ
apart_in base a rs = gcd_from a (map (λ r. over base (smallest r)) rs)

-- with d, that of the stored numbers
unfoldable pub common_in : ℕ → ℕ → List (List ℤ) → ℕ
common_in g d [] = d
common_in g d (r ∷ rs) = common_in g (gcd_from d (stored_with g r)) rs

-- a run that is not empty, with g a divisor of its differences
pub record Divided (g : ℕ) (r : List ℤ) : Type 0 where
  pub some : 0 < length r
  pub divides : Each (λ v. g ∣ over (smallest r) v) r

-- ---- distances

-- from a to v by way of m
by_way : (k : ℕ) (a m v : ℤ) → k ∣ over a m → k ∣ over m v → k ∣ over a v
by_way k a m v h j = dvd_between k m a v (subst (λ (n : ℕ). k ∣ n) (over_sym a m) h) j

smallest_one : (P : ℤ → Type 0) (r : List ℤ) → 0 < length r → Each P r → P (smallest r)
smallest_one P [] h t = absurd (omega arith)
smallest_one P (v ∷ vs) h t = smallest_has P v vs t

pub each_append : (P : ℤ → Type 0) (r vs : List ℤ) → Each P r → Each P vs → Each P (r ++ vs)
each_append P [] vs s t = t
each_append P (v ∷ r) vs s t = (s.0, each_append P r vs s.1 t)

each_front : (P : ℤ → Type 0) (r vs : List ℤ) → Each P (r ++ vs) → Each P r × Each P vs
each_front P [] vs t = (tt, t)
each_front P (v ∷ r) vs t = let m = each_front P r vs t.1 in ((t.0, m.0), m.1)

divides_through : (k d : ℕ) (xs : List ℕ) → k ∣ d → DividesEach d xs → DividesEach k xs
divides_through k d [] h t = tt
divides_through k d (x ∷ xs) h t = (dvd_trans k h t.0, divides_through k d xs h t.1)

-- ---- what divides the distances of all values to the base, and what divides both counts

module _ (k g : ℕ) where
  -- the stored numbers, times g, are the distances to the smallest
  to_numbers : (m : ℤ) (vs : List ℤ) → Each (λ v. g ∣ over m v) vs → Each (λ v. k ∣ over m v) vs → DividesEach k (map (λ x. g * x) (map (λ v. over m v / g) vs))
  to_numbers m [] d t = tt
  to_numbers m (v ∷ vs) d t = (subst (λ (n : ℕ). k ∣ n) (sym (mul-div_cancel' g d.0)) t.0, to_numbers m vs d.1 t.1)

  from_numbers : (m : ℤ) (vs : List ℤ) → Each (λ v. g ∣ over m v) vs → DividesEach k (map (λ x. g * x) (map (λ v. over m v / g) vs))
      → Each (λ v. k ∣ over m v) vs
  from_numbers m [] d t = tt
  from_numbers m (v ∷ vs) d t = (subst (λ (n : ℕ). k ∣ n) (mul-div_cancel' g d.0) t.0, from_numbers m vs d.1 t.1)

  module _ (base : ℤ) where
    into_apart : (a : ℕ) (rs : List (List ℤ)) → EachRun (Divided g) rs → k ∣ a → Each (λ v. k ∣ over base v) (joined rs) → k ∣ apart_in base a rs
    unfolding joined gcd_from
    into_apart a [] d h t = h
    into_apart a (r ∷ rs) d h t =
        let s = each_front (λ v. k ∣ over base v) r (joined rs) t in
        into_apart (gcd a (over base (smallest r))) rs d.1
        ((gcd_is a (over base (smallest r))).great k h (smallest_one (λ v. k ∣ over base v) r d.0.some s.0)) s.1

    into_common : (n : ℕ) (rs : List (List ℤ)) → EachRun (Divided g) rs → k ∣ g * n → Each (λ v. k ∣ over base v) (joined rs) → k ∣ g * common_in g n rs
    unfolding joined common_in stored_with
    into_common n [] d h t = h
    into_common n (r ∷ rs) d h t =
        let s = each_front (λ v. k ∣ over base v) r (joined rs) t in
        let m : k ∣ over base (smallest r) = smallest_one (λ v. k ∣ over base v) r d.0.some s.0 in
        let own = to_numbers (smallest r) r d.0.divides (each_map (λ v j. dvd_between k base (smallest r) v m j) r s.0) in
        let l : k ∣ g * gcd_from n (stored_with g r) =
        subst (λ (x : ℕ). k ∣ x) (gcd_From_scaled g n (stored_with g r)) (dvd_gcd_from k (g * n) (map (λ x. g * x) (stored_with g r)) h own) in
        into_common (gcd_from n (stored_with g r)) rs d.1 l s.1

    from_both : (a n : ℕ) (rs : List (List ℤ)) → EachRun (Divided g) rs → k ∣ apart_in base a rs → k ∣ g * common_in g n rs
        → (k ∣ a) × (k ∣ g * n) × Each (λ v. k ∣ over base v) (joined rs)
    unfolding joined common_in gcd_from stored_with
    from_both a n [] d h j = (h, j, tt)
    from_both a n (r ∷ rs) d h j =
        let xs : List ℕ = stored_with g r in
        let more = from_both (gcd a (over base (smallest r))) (gcd_from n xs) rs d.1 h j in
        let both = gcd_is a (over base (smallest r)) in
        let m : k ∣ over base (smallest r) = dvd_trans k more.0 both.right in
        let c : k ∣ gcd_from (g * n) (map (λ x. g * x) xs) = subst (λ (x : ℕ). k ∣ x) (sym (gcd_From_scaled g n xs)) more.1 in
        let l : List ℕ = map (λ x. g * x) xs in
        let own = from_numbers (smallest r) r d.0.divides (divides_through k (gcd_from (g * n) l) l c (gcd_From_each (g * n) l)) in (
          dvd_trans k more.0 both.left,
          dvd_trans k c (gcd_From_first (g * n) l),
          each_append (λ v. k ∣ over base v) r (joined rs) (each_map (λ v t. by_way k base (smallest r) v m t) r own) more.2,
        )

-- ---- the divisor of values in runs

-- the distances of all values to the base have the divisor that both counts have
whole_common : (g : ℕ) (base : ℤ) (rs : List (List ℤ)) → EachRun (Divided g) rs
    → gcd_from 0 (map (over base) (joined rs)) ≡ gcd (apart_in base 0 rs) (g * common_in g 0 rs)
whole_common g base rs d =
    let vs : List ℤ = joined rs in
    let a : ℕ = apart_in base 0 rs in
    let n : ℕ = g * common_in g 0 rs in
    let k : ℕ = gcd_from 0 (map (over base) vs) in
    let own : Each (λ v. k ∣ over base v) vs = each_value k (over base) vs (gcd_From_each 0 (map (over base) vs)) in
    let j : ℕ = gcd a n in
    let b = gcd_is a n in
    dvd_antisymm
    (b.great k (into_apart k g base 0 rs d (dvd-zero k) own) (into_common k g base 0 rs d (subst (λ (x : ℕ). k ∣ x) (sym (mul-zero g)) (dvd-zero k)) own))
    (dvd_gcd_from j 0 (map (over base) vs) (dvd-zero j) (each_number j (over base) vs (from_both j g base 0 0 rs d b.left b.right).2))

-- the smallest value of the first run is as good a base as the smallest of all
first_base : (r : List ℤ) (rs : List (List ℤ)) → 0 < length r
    → gcd_from 0 (differences (joined (r ∷ rs))) ≡ gcd_from 0 (map (over (smallest r)) (joined (r ∷ rs)))
unfolding joined
first_base r rs h =
    let vs : List ℤ = r ++ joined rs in
    let m : ℤ = smallest vs in
    let b : ℤ = smallest r in
    let km : ℕ = gcd_from 0 (map (over m) vs) in
    let kb : ℕ = gcd_from 0 (map (over b) vs) in
    let em = each_value km (over m) vs (gcd_From_each 0 (map (over m) vs)) in
    let eb = each_value kb (over b) vs (gcd_From_each 0 (map (over b) vs)) in
    sym (gcd_from_smallest vs)
    ∙ dvd_antisymm
    (to_other m b vs (smallest_one (λ v. km ∣ over m v) r h (each_front (λ v. km ∣ over m v) r (joined rs) em).0))
    (to_other b m vs (smallest_one (λ v. kb ∣ over b v) vs (omega (arith, length-append r (joined rs))) eb))

-- the base is the smallest value of the first run
pub runs_divisor : (g : ℕ) (base : ℤ) (rs : List (List ℤ)) → EachRun (Divided g) rs → (0 < length rs → base ≡ smallest (get_or rs 0 []))
    → divisor (joined rs) ≡ or_one (gcd (apart_in base 0 rs) (g * common_in g 0 rs))
unfolding joined common_in differences gcd_from
runs_divisor g base [] d e = divisor_by [] ∙ rw (mul-zero g, gcd_zero 0)
runs_divisor g base (r ∷ rs) d e =
    let same : base ≡ smallest r = e (omega arith) in
    divisor_by (r ++ joined rs)
    ∙ ap or_one
    (first_base r rs d.0.some ∙ ap (λ (b : ℤ). gcd_from 0 (map (over b) (r ++ joined rs))) (sym same) ∙ whole_common g base (r ∷ rs) d)

-- ---- the test

module _ (g a n : ℕ) (p : 0 < g) where
  c : ℕ
  c = gcd (a / g) n

  scaled_gcd : (b m : ℕ) → gcd (g * b) (g * m) ≡ g * gcd b m
  unfolding gcd_from
  scaled_gcd b m = gcd_From_scaled g b (m ∷ [])

  by_c : a % g ≡ 0 → gcd a (g * n) ≡ g * c
  unfolding c
  by_c z =
      let e : a ≡ g * (a / g) = omega (arith, div-add-mod' a g, mul_comm g (a / g)) in
      ap (λ (x : ℕ). gcd x (g * n)) e ∙ scaled_gcd (a / g) n

  pub divisor_sound : divisor_ok g a n ≡ true → or_one (gcd a (g * n)) ≡ g
  unfolding divisor_ok c
  divisor_sound t =
      let b = both_true (eqb (a % g) 0) (eqb c 1 || (eqb c 0 && eqb g 1)) t in
      let e : gcd a (g * n) ≡ g * c = by_c (eqb-true _ _ b.0) in
      equal_or c 1
      (λ h.
      let same : gcd a (g * n) ≡ g = e ∙ ap (λ (x : ℕ). g * x) h ∙ mul-one g in
      rw (same, ne_eqb g 0 (λ z. omega arith)))
      (λ h.
      let rest = both_true (eqb c 0) (eqb g 1) (rw (ne_eqb c 1 h) at b.1) in
      let none : gcd a (g * n) ≡ 0 = e ∙ ap (λ (x : ℕ). g * x) (eqb-true c 0 rest.0) ∙ mul-zero g in
      rw none (sym (eqb-true g 1 rest.1)))

  pub divisor_complete : or_one (gcd a (g * n)) ≡ g → divisor_ok g a n ≡ true
  unfolding divisor_ok c
  divisor_complete t =
      equal_or (gcd a (g * n)) 0
      (λ z.
      let one : g ≡ 1 = sym (rw (eq-eqb (gcd a (g * n)) 0 z) at t) in
      let rem : a % g ≡ 0 = ap (λ (x : ℕ). a % x) one ∙ mod-one a in
      let none : c ≡ 0 = let e = sym (by_c rem) ∙ z in eq_of_mul-eq-mul_left g p c 0 (e ∙ sym (mul-zero g)) in
      true_both _ _ (eq-eqb _ _ rem) (or_right (eqb c 1) (eqb c 0 && eqb g 1) (true_both _ _ (eq-eqb _ _ none) (eq-eqb _ _ one))))
      (λ z.
      let same : gcd a (g * n) ≡ g = rw (ne_eqb (gcd a (g * n)) 0 z) at t in
      let divides : g ∣ a = subst (λ (x : ℕ). x ∣ a) same (gcd_is a (g * n)).left in
      let rem : a % g ≡ 0 = no_rest a g p divides in
      let one : c ≡ 1 = eq_of_mul-eq-mul_left g p c 1 (sym (by_c rem) ∙ same ∙ sym (mul-one g)) in
      true_both _ _ (eq-eqb _ _ rem) (or_left (eqb c 1) (eqb c 0 && eqb g 1) (eq-eqb _ _ one)))
    where
      no_rest : (a g : ℕ) → 0 < g → g ∣ a → a % g ≡ 0
      no_rest a g p d = let e : g * (a / g) ≡ a = mul-div_cancel' g d in omega (arith, div-add-mod' a g, mul_comm g (a / g))
