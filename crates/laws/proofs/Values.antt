-- The stored numbers stand for the values. Assumes nothing.
use Rattle.format.specs.Kit.{◌≡◌, refl, sym, ap, ap₂, ◌∙◌, subst, cond, not, List, [], ◌∷◌, map, ℕ, zero, suc, ◌+◌, ◌-◌, ◌/◌, ◌^◌, ◌<◌, ◌≤◌}
use Rattle.format.specs.Kit.{◌∣◌, zero-le, suc-le-suc, dvd-zero, dvd-add, dvd-sub, dvd_antisymm, one-dvd, mul-div_cancel', le_trans, pow-zero}
use Rattle.format.specs.Kit.{pow-succ', add_comm, lt_of_le_of_lt, le-div_iff_mul-le, div-mul-le_self, arith, T, eqb, leb→le, le→leb, nleb→lt}
use Rattle.format.specs.Kit.{lit<, ℤ, pos, negsuc, neg_ℤ, nat_abs, sub_ℕ, ◌+ℤ◌, ◌-ℤ◌, +ℤ_comm, -ℤ-+ℤ_cancel, +ℤ_assoc, +ℤ_invl, +ℤ_idl, neg_ℤ-+ℤ}
use Rattle.format.specs.Kit.{neg_ℤ-neg_ℤ, length, get_or, length-map, le_z, non_neg, pos-nat_abs, lt-ltb, le-ltb}
use Rattle.format.specs.Values.{least_of, most_of, smallest, greatest, over, spread, gcd_from, differences, divisor, stored_with, stored, value_at}
use Rattle.format.specs.Values.{bits_in, bit_length, width_with}
use Rattle.format.specs.Pairs.{Below, Each}
use Rattle.laws.proofs.Cases.{below_or, true_or}
use Rattle.laws.proofs.Gcd.{gcd_From_each, dvd_gcd_from, each_value, each_number}

-- ---- each of a list

pub each_map : {P Q : ℤ → Type 0} → ((v : ℤ) → P v → Q v) → (vs : List ℤ) → Each P vs → Each Q vs
each_map f [] t = tt
each_map f (v ∷ vs) t = (f v t.0, each_map f vs t.1)

pub each_at : (P : ℤ → Type 0) (vs : List ℤ) (i : ℕ) (d : ℤ) → Each P vs → i < length vs → P (get_or vs i d)
each_at P [] i d t k = absurd (omega arith)
each_at P (v ∷ vs) zero d t k = t.0
each_at P (v ∷ vs) (suc i) d t k = each_at P vs i d t.1 (omega arith)

map_same : (f : ℤ → ℤ) (vs : List ℤ) → Each (λ v. f v ≡ v) vs → map f vs ≡ vs
map_same f [] t = refl
map_same f (v ∷ vs) t = ap₂ {C = List ℤ} (λ (a : ℤ) (l : List ℤ). a ∷ l) t.0 (map_same f vs t.1)

-- ---- the order

le_Z_refl : (a : ℤ) → T (le_z a a)
le_Z_refl (pos a) = le→leb a a (omega arith)
le_Z_refl (negsuc a) = le→leb a a (omega arith)

le_Z_trans : (a b c : ℤ) → T (le_z a b) → T (le_z b c) → T (le_z a c)
le_Z_trans (pos a) (pos b) (pos c) h k = le→leb a c (le_trans (leb→le a b h) (leb→le b c k))
le_Z_trans (pos a) (pos b) (negsuc c) h k = k
le_Z_trans (pos a) (negsuc b) c h k = absurd h
le_Z_trans (negsuc a) b (pos c) h k = tt
le_Z_trans (negsuc a) (pos b) (negsuc c) h k = absurd k
le_Z_trans (negsuc a) (negsuc b) (negsuc c) h k = le→leb c a (le_trans (leb→le c b k) (leb→le b a h))

le_Z_flip : (a b : ℤ) → T (not (le_z a b)) → T (le_z b a)
le_Z_flip (pos a) (pos b) h = le→leb b a (omega (arith, nleb→lt a b h))
le_Z_flip (pos a) (negsuc b) h = tt
le_Z_flip (negsuc a) (pos b) h = h
le_Z_flip (negsuc a) (negsuc b) h = le→leb a b (omega (arith, nleb→lt b a h))

-- ---- the smallest

module _ (m v : ℤ) where
  lesser : ℤ
  lesser = cond (le_z m v) m v

  lesser_left : T (le_z lesser m)
  unfolding lesser
  lesser_left = true_or (le_z m v) (λ e. rw e (le_Z_refl m)) (λ e. rw e (le_Z_flip m v (rw e tt)))

  lesser_right : T (le_z lesser v)
  unfolding lesser
  lesser_right = true_or (le_z m v) (λ e. rw e (rw e tt)) (λ e. rw e (le_Z_refl v))

pub least_first : (m : ℤ) (vs : List ℤ) → T (le_z (least_of m vs) m)
unfolding least_of lesser
least_first m [] = le_Z_refl m
least_first m (v ∷ vs) = le_Z_trans (least_of (lesser m v) vs) (lesser m v) m (least_first (lesser m v) vs) (lesser_left m v)

pub least_each : (m : ℤ) (vs : List ℤ) → Each (λ v. T (le_z (least_of m vs) v)) vs
unfolding least_of lesser
least_each m [] = tt
least_each m (v ∷ vs) =
    (le_Z_trans (least_of (lesser m v) vs) (lesser m v) v (least_first (lesser m v) vs) (lesser_right m v), least_each (lesser m v) vs)

-- what holds of each value holds of the smallest
pub least_has : (P : ℤ → Type 0) (m : ℤ) (vs : List ℤ) → P m → Each P vs → P (least_of m vs)
unfolding least_of
least_has P m [] h t = h
least_has P m (v ∷ vs) h t = least_has P (cond (le_z m v) m v) vs (true_or (le_z m v) (λ e. rw e h) (λ e. rw e t.0)) t.1

pub most_has : (P : ℤ → Type 0) (m : ℤ) (vs : List ℤ) → P m → Each P vs → P (most_of m vs)
unfolding most_of
most_has P m [] h t = h
most_has P m (v ∷ vs) h t = most_has P (cond (le_z m v) v m) vs (true_or (le_z m v) (λ e. rw e t.0) (λ e. rw e h)) t.1

-- ---- the difference

sub_non_neg : (a b : ℕ) → b ≤ a → T (non_neg (sub_ℕ a b))
sub_non_neg a b h = rw (le-ltb a b h) tt

diff_non_neg : (m v : ℤ) → T (le_z m v) → T (non_neg (v -ℤ m))
diff_non_neg (pos zero) (pos b) h = tt
diff_non_neg (pos (suc a)) (pos b) h = sub_non_neg b (suc a) (leb→le (suc a) b h)
diff_non_neg (pos a) (negsuc b) h = absurd h
diff_non_neg (negsuc a) (pos b) h = tt
diff_non_neg (negsuc a) (negsuc b) h = sub_non_neg (suc a) (suc b) (omega (arith, leb→le b a h))

-- the smallest and the difference make the value
pub over_back : (m v : ℤ) → T (le_z m v) → m +ℤ pos (over m v) ≡ v
over_back m v h = ap (λ (z : ℤ). m +ℤ z) (pos-nat_abs (v -ℤ m) (diff_non_neg m v h)) ∙ +ℤ_comm m (v -ℤ m) ∙ -ℤ-+ℤ_cancel v m

-- (c - b) + (b - a)
both_steps : (a b c : ℤ) → (c -ℤ b) +ℤ (b -ℤ a) ≡ c -ℤ a
both_steps a b c =
    +ℤ_assoc c (neg_ℤ b) (b +ℤ neg_ℤ a)
    ∙ ap (λ (z : ℤ). c +ℤ z) (sym (+ℤ_assoc (neg_ℤ b) b (neg_ℤ a)) ∙ ap (λ (z : ℤ). z +ℤ neg_ℤ a) (+ℤ_invl b) ∙ +ℤ_idl (neg_ℤ a))

-- a difference has no side
negated : (z : ℤ) → nat_abs (neg_ℤ z) ≡ nat_abs z
negated (pos zero) = refl
negated (pos (suc n)) = refl
negated (negsuc n) = refl

turned : (a b : ℤ) → neg_ℤ (b -ℤ a) ≡ a -ℤ b
turned a b = neg_ℤ-+ℤ b (neg_ℤ a) ∙ ap (λ (z : ℤ). neg_ℤ b +ℤ z) (neg_ℤ-neg_ℤ a) ∙ +ℤ_comm (neg_ℤ b) a

pub over_sym : (a b : ℤ) → over a b ≡ over b a
over_sym a b = sym (negated (b -ℤ a)) ∙ ap nat_abs (turned a b)

pub over_add : (a b c : ℤ) → T (le_z a b) → T (le_z b c) → over a c ≡ over a b + over b c
over_add a b c h k =
    ap nat_abs (sym (both_steps a b c) ∙ ap₂ ◌+ℤ◌ (sym (pos-nat_abs (c -ℤ b) (diff_non_neg b c k))) (sym (pos-nat_abs (b -ℤ a) (diff_non_neg a b h))))
    ∙ add_comm (over b c) (over a b)

-- ---- the divisor

dvd_subℕ : (d a b : ℕ) → d ∣ a → d ∣ b → d ∣ nat_abs (sub_ℕ a b)
dvd_subℕ d a b ha hb =
    below_or a b
    (λ h. let gap : b - a ≡ suc (b - suc a) = omega arith in rw (lt-ltb a b h) (subst (λ (n : ℕ). d ∣ n) gap (dvd-sub d hb ha)))
    (λ h. rw (le-ltb a b h) (dvd-sub d ha hb))

dvd_over : (d : ℕ) (m v : ℤ) → d ∣ nat_abs m → d ∣ nat_abs v → d ∣ over m v
dvd_over d (pos zero) (pos b) hm hv = dvd-add d hv (dvd-zero d)
dvd_over d (pos (suc a)) (pos b) hm hv = dvd_subℕ d b (suc a) hv hm
dvd_over d (pos zero) (negsuc b) hm hv = dvd_subℕ d zero (suc b) hm hv
dvd_over d (pos (suc a)) (negsuc b) hm hv =
    let sum : suc b + suc a ≡ suc (suc (b + a)) = omega arith in
    subst (λ (n : ℕ). d ∣ n) sum (dvd-add d hv hm)
dvd_over d (negsuc a) (pos b) hm hv = dvd-add d hv hm
dvd_over d (negsuc a) (negsuc b) hm hv = dvd_subℕ d (suc a) (suc b) hm hv

-- what divides the differences of a and two values divides the difference of these
pub dvd_between : (d : ℕ) (a u v : ℤ) → d ∣ over a u → d ∣ over a v → d ∣ over u v
dvd_between d a u v hu hv = subst (λ (z : ℤ). d ∣ nat_abs z) apart (dvd_over d (u -ℤ a) (v -ℤ a) hu hv)
  where
    apart : (v -ℤ a) -ℤ (u -ℤ a) ≡ v -ℤ u
    apart = ap (λ (z : ℤ). (v -ℤ a) +ℤ z) (turned a u) ∙ both_steps u a v

-- ---- the values come back

map_map : (f : ℕ → ℤ) (h : ℤ → ℕ) (vs : List ℤ) → map f (map h vs) ≡ map (λ v. f (h v)) vs
map_map f h [] = refl
map_map f h (v ∷ vs) = ap {B = List ℤ} (λ (l : List ℤ). f (h v) ∷ l) (map_map f h vs)

pub smallest_each : (vs : List ℤ) → Each (λ v. T (le_z (smallest vs) v)) vs
unfolding smallest
smallest_each [] = tt
smallest_each (v ∷ vs) = (least_first v vs, least_each v vs)

pub smallest_has : (P : ℤ → Type 0) (v : ℤ) (vs : List ℤ) → Each P (v ∷ vs) → P (smallest (v ∷ vs))
unfolding smallest
smallest_has P v vs t = least_has P v vs t.0 t.1

-- the greatest common divisor of the differences to a
abbrev pub gcd_to : ℤ → List ℤ → ℕ
gcd_to a vs = gcd_from 0 (map (over a) vs)

pub gcd_to_each : (a : ℤ) (vs : List ℤ) → Each (λ u. gcd_to a vs ∣ over a u) vs
gcd_to_each a vs = each_value (gcd_to a vs) (over a) vs (gcd_From_each 0 (map (over a) vs))

-- if it divides that of b, it divides the one to b
pub to_other : (a b : ℤ) (vs : List ℤ) → gcd_to a vs ∣ over a b → gcd_to a vs ∣ gcd_to b vs
to_other a b vs h =
    let k : ℕ = gcd_to a vs in
    dvd_gcd_from k 0 (map (over b) vs) (dvd-zero k)
    (each_number k (over b) vs (each_map (λ u t. dvd_between k a b u h t) vs (gcd_to_each a vs)))

-- the differences to the smallest value have the same greatest common divisor as those to the first
pub gcd_from_smallest : (vs : List ℤ) → gcd_from 0 (map (over (smallest vs)) vs) ≡ gcd_from 0 (differences vs)
unfolding differences
gcd_from_smallest [] = refl
gcd_from_smallest (v ∷ vs) =
    let m : ℤ = smallest (v ∷ vs) in
    dvd_antisymm
    (to_other m v (v ∷ vs) (gcd_to_each m (v ∷ vs)).0)
    (to_other v m (v ∷ vs) (smallest_has (λ u. gcd_to v (v ∷ vs) ∣ over v u) v vs (gcd_to_each v (v ∷ vs))))

-- the divisor divides each difference to the smallest
pub divides_each : (vs : List ℤ) → Each (λ v. divisor vs ∣ over (smallest vs) v) vs
unfolding divisor
divides_each vs =
    true_or (eqb (spread vs) 0)
    (λ e. rw e (each_map (λ v t. one-dvd (over (smallest vs) v)) vs (gcd_to_each (smallest vs) vs)))
    (λ e. rw (e, ← gcd_from_smallest vs) (gcd_to_each (smallest vs) vs))

pub each_two : {P Q R : ℤ → Type 0} → ((v : ℤ) → P v → Q v → R v) → (vs : List ℤ) → Each P vs → Each Q vs → Each R vs
each_two f [] s t = tt
each_two f (v ∷ vs) s t = (f v s.0 t.0, each_two f vs s.1 t.1)

pub value_back : (m : ℤ) (g : ℕ) (v : ℤ) → T (le_z m v) → g ∣ over m v → value_at m g (over m v / g) ≡ v
unfolding value_at
value_back m g v h d = rw (mul-div_cancel' g d) (over_back m v h)

-- by any g that divides the differences to the smallest
pub values_back : (g : ℕ) (vs : List ℤ) → Each (λ v. g ∣ over (smallest vs) v) vs → map (value_at (smallest vs) g) (stored_with g vs) ≡ vs
unfolding stored_with
values_back g vs d =
    map_map (value_at (smallest vs) g) (λ v. over (smallest vs) v / g) vs
    ∙ map_same (λ v. value_at (smallest vs) g (over (smallest vs) v / g)) vs
    (each_two (value_back (smallest vs) g) vs (smallest_each vs) d)

-- ---- the stored numbers fit the width

bits_in_lem : (f q : ℕ) → q ≤ f → q < 2 ^ bits_in f q
unfolding bits_in
bits_in_lem zero q h = omega (arith, pow-zero 2)
bits_in_lem (suc f) zero h = lit< tt
bits_in_lem (suc f) (suc q) h = omega (arith, bits_in_lem f (suc q / 2) (omega arith), pow-succ' 2 (bits_in f (suc q / 2)))

pub bit_length_lem : (q : ℕ) → q < 2 ^ bit_length q
unfolding bit_length
bit_length_lem q = bits_in_lem q q (omega arith)

bits_le : (f q k : ℕ) → q < 2 ^ k → bits_in f q ≤ k
unfolding bits_in
bits_le zero q k h = zero-le
bits_le (suc f) zero k h = zero-le
bits_le (suc f) (suc q) zero h = absurd (omega (arith, pow-zero 2))
bits_le (suc f) (suc q) (suc k) h = suc-le-suc (bits_le f (suc q / 2) k (omega (arith, pow-succ' 2 k)))

-- the least such width
pub bit_length_le : (q k : ℕ) → q < 2 ^ k → bit_length q ≤ k
unfolding bit_length
bit_length_le q k h = bits_le q q k h

module _ (m v : ℤ) where
  greater : ℤ
  greater = cond (le_z m v) v m

  greater_left : T (le_z m greater)
  unfolding greater
  greater_left = true_or (le_z m v) (λ e. rw e (rw e tt)) (λ e. rw e (le_Z_refl m))

  greater_right : T (le_z v greater)
  unfolding greater
  greater_right = true_or (le_z m v) (λ e. rw e (le_Z_refl v)) (λ e. rw e (le_Z_flip m v (rw e tt)))

most_first : (m : ℤ) (vs : List ℤ) → T (le_z m (most_of m vs))
unfolding most_of greater
most_first m [] = le_Z_refl m
most_first m (v ∷ vs) = le_Z_trans m (greater m v) (most_of (greater m v) vs) (greater_left m v) (most_first (greater m v) vs)

most_each : (m : ℤ) (vs : List ℤ) → Each (λ v. T (le_z v (most_of m vs))) vs
unfolding most_of greater
most_each m [] = tt
most_each m (v ∷ vs) =
    (le_Z_trans v (greater m v) (most_of (greater m v) vs) (greater_right m v) (most_first (greater m v) vs), most_each (greater m v) vs)

pub greatest_each : (vs : List ℤ) → Each (λ v. T (le_z v (greatest vs))) vs
unfolding greatest
greatest_each [] = tt
greatest_each (v ∷ vs) = (most_first v vs, most_each v vs)

over_le : (a c b : ℤ) → T (le_z a b) → T (le_z b c) → over a b ≤ over a c
over_le a c b h k = omega (arith, over_add a b c h k)

-- no value is further from the smallest than the greatest
pub spread_each : (vs : List ℤ) → Each (λ v. over (smallest vs) v ≤ spread vs) vs
unfolding spread
spread_each vs = each_two (over_le (smallest vs) (greatest vs)) vs (smallest_each vs) (greatest_each vs)

below_map : (b : ℕ) (f : ℤ → ℕ) (vs : List ℤ) → Each (λ v. f v < b) vs → Below b (map f vs)
below_map b f [] t = tt
below_map b f (v ∷ vs) t = (t.0, below_map b f vs t.1)

pub length_stored_with : (g : ℕ) (vs : List ℤ) → length (stored_with g vs) ≡ length vs
unfolding stored_with
length_stored_with g vs = length-map vs _

pub length_stored : (vs : List ℤ) → length (stored vs) ≡ length vs
unfolding stored
length_stored vs = length_stored_with (divisor vs) vs

pub div_le_div : {a b g : ℕ} → a ≤ b → zero < g → a / g ≤ b / g
div_le_div {a} {b} {g} k j = (le-div_iff_mul-le j).1 (le_trans (div-mul-le_self a g) k)

pub stored_below : (g : ℕ) (vs : List ℤ) → zero < g → Below (2 ^ width_with g vs) (stored_with g vs)
unfolding stored_with width_with
stored_below g vs h =
    below_map (2 ^ bit_length (spread vs / g)) (λ v. over (smallest vs) v / g) vs
    (each_map (λ v t. lt_of_le_of_lt (div_le_div t h) (bit_length_lem (spread vs / g))) vs (spread_each vs))
