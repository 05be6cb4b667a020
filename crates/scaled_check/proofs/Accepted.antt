-- The tests accept a value section that keeps the header rules exactly if it is the section of its values, and the fields are theirs, in
-- every packing. Assumes nothing.
use Rattle.format.specs.Kit.{◌≡◌, refl, sym, ap, ap₂, ◌∙◌, subst, Bool, true, List, [], ◌∷◌, map, ℕ, ◌-◌, ◌*◌, ◌^◌, ◌<◌, ◌≤◌, min, max, mul-one}
use Rattle.format.specs.Kit.{mul-zero, eq_of_mul-eq-mul_left, lt_of_lt_of_le, arith, eqb, leb, pow_mono, pow_pos, ℤ, length, get_or, length-map}
use Rattle.format.specs.Kit.{eqb-true, eq-eqb, ne_eqb, leb-true, le-leb, lt-leb}
use Rattle.format.specs.HeaderNumbers.{zigzag, unzigzag}
use Rattle.format.specs.Bits.{tabulate, bit_bytes}
use Rattle.format.specs.Values.{smallest, greatest, gcd_from, divisor, stored, stored_with, spread}
use Rattle.format.specs.Pairs.{Below, Each, Fits}
use Rattle.format.specs.Codec.{Fields, width_by, scaled}
use Rattle.laws.proofs.Cases.{equal_or}
use Rattle.laws.proofs.Bits.{byte_at}
use Rattle.laws.proofs.Orders.{packed_by, packed_fetched, spare_packed, bits_past}
use Rattle.laws.proofs.Fits.{zigzag_unzigzag, unzigzag_zigzag, unzigzag_fits, greatest_fits}
use Rattle.laws.proofs.Halves.{ValuesOf, Tested, values_decoded}
use Rattle.laws.proofs.Scaled.{scaled_takes, scaled_fields, scaled_section, scaled_lawful}
use Rattle.packings.specs.declared.Order.{Order}
use Rattle.packings.specs.Packings.{packing_of, narrower_by, spare_ok}
use Rattle.packings.proofs.Packings.{sound_of, width_is, top_is, width_zero, pack_none}
use Rattle.packings.proofs.Spare.{spare_sound, spare_complete}
use Rattle.scaled_values.specs.Held.{numbers_in, value_from, values_from}
use Rattle.scaled_values.proofs.Facts.{Rules, rules_kept}
use Rattle.scaled_values.proofs.Held.{numbers_below, length_numbers, all_held}
use Rattle.scaled_check.specs.ValuesOk.{range_ok, numbers_ok, equal_ok, spread_ok, values_ok}
use Rattle.scaling.specs.Numbers.{least_from, most_from}
use Rattle.scaling.proofs.Stored.{most_first, value_zero, fits_below, each_fits}
use Rattle.scaling.proofs.Ranged.{most_below, least_le, greatest_is, zero_there, zero_needed, divisor_equal, divisor_spread, own_over, own_stored}
use Rattle.scaled_check.proofs.Tested.{numbers_are}
use Rattle.laws.proofs.Tests.{both_true, true_both, or_left, or_right}

no_bytes : (s : List ℕ) → length s ≡ 0 → [] ≡ s
no_bytes [] e = refl
no_bytes (x ∷ s) e = absurd (omega arith)

-- these values have these fields and these bytes
pub record MadeOf (o : Order) (n : ℕ) (h : Fields) (s : List ℕ) (vs : List ℤ) : Type 0 where
  pub count : length vs ≡ n
  pub fit : Each Fits vs
  pub bytes : (packing_of o).pack (width_by (packing_of o) vs) (stored vs) ≡ s
  pub width_is : width_by (packing_of o) vs ≡ h.width
  pub smallest_is : zigzag (smallest vs) ≡ h.smallest
  pub divisor_is : divisor vs ≡ h.divisor

module _ (o : Order) (n : ℕ) (h : Fields) (s : List ℕ) (facts : Rules o n h (length s)) (small : h.smallest < 2 ^ 64) (u : Below 256 s) where
  abbrev w : ℕ
  w = h.width

  abbrev m : ℤ
  m = unzigzag h.smallest

  abbrev vs : List ℕ → List ℤ
  vs xs = map (value_from h) xs

  length_is : length s ≡ bit_bytes (n * w)
  length_is = facts.bytes

  byte : (k : ℕ) → get_or s k 0 < 256
  byte = byte_at s u

  -- the spare bits are 0
  abbrev NoSpare : Type 0
  NoSpare = (j : ℕ) → n * w ≤ j → (sound_of o).order.bit_of 8 s j ≡ 0

  packed_is : NoSpare → (packing_of o).pack w (numbers_in o w n s) ≡ s
  unfolding numbers_in
  packed_is spare =
      (sound_of o).packs w _ ∙ ap (λ (f : ℕ → ℕ). packed_by (sound_of o).order w (tabulate n f)) (λ t i. (sound_of o).fetches s w i t)
      ∙ packed_fetched (sound_of o).orderly w n s length_is byte spare

  m_fits : Fits m
  m_fits = unzigzag_fits h.smallest small

  -- ---- at least one value

  module _ (x : ℕ) (xs : List ℕ) (e : numbers_in o w n s ≡ x ∷ xs) where
    below : Below (2 ^ w) (x ∷ xs)
    below = subst (Below (2 ^ w)) e (numbers_below o w n s)

    lt_most : most_from x xs < 2 ^ w
    lt_most = most_below (2 ^ w) x xs below.0 below.1

    made : least_from x xs ≡ 0 → divisor (vs (x ∷ xs)) ≡ h.divisor → (packing_of o).width_for (most_from x xs) ≡ w → Fits (value_from h (most_from x xs))
        → NoSpare → MadeOf o n h s (vs (x ∷ xs))
    made lo d b f spare =
        let p : 0 < h.divisor = facts.positive in
        let a : smallest (vs (x ∷ xs)) ≡ m = zero_there m h.divisor p x xs lo in
        let k : width_by (packing_of o) (vs (x ∷ xs)) ≡ w = ap (packing_of o).width_for (own_over m h.divisor p x xs lo d) ∙ b in
        record {
          count = length-map (x ∷ xs) (value_from h) ∙ ap length (sym e) ∙ length_numbers o w n s;
          fit = (fits_below m h.divisor p x (most_from x xs) m_fits f (most_first x xs), each_fits m h.divisor p x xs m_fits f);
          bytes = ap₂ (packing_of o).pack k (own_stored m h.divisor p x xs a d ∙ sym e) ∙ packed_is spare;
          width_is = k;
          smallest_is = ap zigzag a ∙ zigzag_unzigzag h.smallest;
          divisor_is = d;
        }

    -- width 0: every number is 0
    equal_made : w ≡ 0 → h.divisor ≡ 1 → MadeOf o n h s (vs (x ∷ xs))
    equal_made z g =
        let p : 0 < h.divisor = facts.positive in
        let q : 2 ^ w ≡ 1 = ap (λ (k : ℕ). 2 ^ k) z in
        let hi : most_from x xs ≡ 0 = omega (arith, lt_most) in
        let lo : least_from x xs ≡ 0 = omega (arith, below.0, least_le x xs) in
        let none : length s ≡ 0 = length_is ∙ ap (λ (k : ℕ). bit_bytes (n * k)) z ∙ ap bit_bytes (mul-zero n) in
        made lo (divisor_equal m h.divisor p x xs lo hi ∙ sym g) (ap (packing_of o).width_for hi ∙ width_zero o ∙ sym z)
        (rw (hi, value_zero m h.divisor p) m_fits)
        (λ j l. bits_past (sound_of o).orderly s j (omega arith))

    equal_step : w ≡ 0 → MadeOf o n h s (vs (x ∷ xs)) → h.divisor ≡ 1
    equal_step z v =
        let q : 2 ^ w ≡ 1 = ap (λ (k : ℕ). 2 ^ k) z in
        let hi : most_from x xs ≡ 0 = omega (arith, lt_most) in
        let lo : least_from x xs ≡ 0 = omega (arith, below.0, least_le x xs) in
        sym v.divisor_is ∙ divisor_equal m h.divisor facts.positive x xs lo hi

    -- any other width
    spread_made : 0 < w → NoSpare
        → range_ok o h (least_from x xs) (most_from x xs) (gcd_from 0 (x ∷ xs)) ≡ true → MadeOf o n h s (vs (x ∷ xs))
    unfolding range_ok Fits
    spread_made z spare r =
        let p : 0 < h.divisor = facts.positive in
        let f = both_true _ _ r in
        let d = both_true _ _ f.0 in
        let t = both_true _ _ d.0 in
        let lo : least_from x xs ≡ 0 = eqb-true _ _ t.0 in
        let top : 2 ^ narrower_by o w ≤ most_from x xs = leb-true _ _ t.1 in
        let one : gcd_from 0 (x ∷ xs) ≡ 1 = eqb-true _ _ d.1 in
        let hi : 0 < most_from x xs = omega (arith, pow_pos (narrower_by o w)) in
        made lo
        (divisor_spread m h.divisor p x xs lo hi ∙ ap (λ (k : ℕ). h.divisor * k) one ∙ mul-one h.divisor)
        (width_is o w (most_from x xs) facts.allowed z lt_most top) f.1 spare

    spread_range : 0 < w → MadeOf o n h s (vs (x ∷ xs))
        → (range_ok o h (least_from x xs) (most_from x xs) (gcd_from 0 (x ∷ xs)) ≡ true) × ((packing_of o).pack w (x ∷ xs) ≡ s)
    unfolding range_ok Fits
    spread_range z v =
        let p : 0 < h.divisor = facts.positive in
        let a : smallest (vs (x ∷ xs)) ≡ m = sym (unzigzag_zigzag (smallest (vs (x ∷ xs)))) ∙ ap unzigzag v.smallest_is in
        let lo : least_from x xs ≡ 0 = zero_needed m h.divisor p x xs a in
        let b : (packing_of o).width_for (most_from x xs) ≡ w = ap (packing_of o).width_for (sym (own_over m h.divisor p x xs lo v.divisor_is))
        ∙ v.width_is in
        let q : most_from x xs < 2 ^ 64 = lt_of_lt_of_le lt_most (pow_mono {j = 64} facts.narrow) in
        let top : 2 ^ narrower_by o w ≤ most_from x xs = top_is o w (most_from x xs) facts.allowed z q b in
        let hi : 0 < most_from x xs = omega (arith, pow_pos (narrower_by o w)) in
        let one : gcd_from 0 (x ∷ xs) ≡ 1 =
        eq_of_mul-eq-mul_left h.divisor p _ 1 (sym (divisor_spread m h.divisor p x xs lo hi) ∙ v.divisor_is ∙ sym (mul-one h.divisor)) in
        let f : Fits (value_from h (most_from x xs)) =
        subst Fits (greatest_is m h.divisor p x xs) (greatest_fits (vs (x ∷ xs)) v.fit) in (
          true_both _ _ (true_both _ _ (true_both _ _ (eq-eqb _ _ lo) (le-leb _ _ top)) (eq-eqb _ _ one)) f,
          sym (ap₂ (packing_of o).pack v.width_is (own_stored m h.divisor p x xs a v.divisor_is)) ∙ v.bytes,
        )

    numbers_from : numbers_ok o h (2 ^ w - 1) 0 0 (x ∷ xs) ≡ range_ok o h (least_from x xs) (most_from x xs) (gcd_from 0 (x ∷ xs))
    unfolding least_from most_from
    numbers_from =
        let a : min (2 ^ w - 1) x ≡ x = omega (arith, below.0) in
        let b : max 0 x ≡ x = omega arith in
        numbers_are o h (2 ^ w - 1) 0 0 (x ∷ xs)
        ∙ ap₂ (λ (y z : ℕ). range_ok o h (least_from y xs) (most_from z xs) (gcd_from 0 (x ∷ xs))) a b

  -- ---- width 0

  none_made : n ≡ 0 → w ≡ 0 → h.divisor ≡ 1 → h.smallest ≡ 0 → MadeOf o n h s []
  unfolding stored stored_with smallest greatest divisor spread
  none_made a b c d =
      record {
        count = sym a;
        fit = tt;
        bytes =
            ap (λ (k : ℕ). (packing_of o).pack k []) (width_zero o) ∙ pack_none o
            ∙ no_bytes s (length_is ∙ ap (λ (k : ℕ). bit_bytes (n * k)) b ∙ ap bit_bytes (mul-zero n));
        width_is = width_zero o ∙ sym b;
        smallest_is = sym d;
        divisor_is = sym c;
      }

  equal_sound : (l : List ℕ) → numbers_in o w n s ≡ l → w ≡ 0 → equal_ok n h ≡ true → MadeOf o n h s (vs l)
  unfolding equal_ok
  equal_sound [] e z t =
      let g = both_true _ _ t in
      let a : n ≡ 0 = sym (length_numbers o w n s) ∙ ap length e in
      none_made a z (eqb-true _ _ g.0) (eqb-true _ _ (rw (lt-leb 1 n (omega arith)) at g.1))
  equal_sound (x ∷ xs) e z t = equal_made x xs e z (eqb-true _ _ (both_true _ _ t).0)

  equal_complete : (l : List ℕ) → numbers_in o w n s ≡ l → w ≡ 0 → MadeOf o n h s (vs l) → equal_ok n h ≡ true
  unfolding equal_ok smallest greatest divisor spread
  equal_complete [] e z v =
      true_both _ _ (eq-eqb _ _ (sym v.divisor_is))
      (or_right (leb 1 n) (eqb h.smallest 0) (eq-eqb h.smallest 0 (sym v.smallest_is)))
  equal_complete (x ∷ xs) e z v =
      let a : n ≡ length (x ∷ xs) = sym (length_numbers o w n s) ∙ ap length e in
      true_both _ _ (eq-eqb _ _ (equal_step x xs e z v)) (or_left (leb 1 n) (eqb h.smallest 0) (le-leb 1 n (omega arith)))

  -- ---- any other width

  abbrev numbers : List ℕ → Bool
  numbers l = numbers_ok o h (2 ^ w - 1) 0 0 l

  none_stored : 0 < w → numbers [] ≡ true → ⊥
  unfolding numbers_ok range_ok
  none_stored z r =
      let q : 2 ^ w - 1 ≡ 0 = eqb-true _ _ (both_true _ _ (both_true _ _ (both_true _ _ r).0).0).0 in
      omega (arith, pow_mono {i = 1} {j = w} z)

  spread_parts : spread_ok o n h s ≡ true → (spare_ok o s (8 * length s - n * w) ≡ true) × (numbers (numbers_in o w n s) ≡ true)
  unfolding spread_ok
  spread_parts t = both_true (spare_ok o s (8 * length s - n * w)) (numbers (numbers_in o w n s)) t

  spread_sound : (l : List ℕ) → numbers_in o w n s ≡ l → 0 < w → spread_ok o n h s ≡ true → MadeOf o n h s (vs l)
  spread_sound [] e z t = absurd (none_stored z (subst (λ (k : List ℕ). numbers k ≡ true) e (spread_parts t).1))
  spread_sound (x ∷ xs) e z t =
      let r = spread_parts t in
      spread_made x xs e z (spare_sound o s (n * w) length_is byte r.0) (sym (numbers_from x xs e) ∙ subst (λ (k : List ℕ). numbers k ≡ true) e r.1)

  spread_complete : (l : List ℕ) → numbers_in o w n s ≡ l → 0 < w → MadeOf o n h s (vs l) → spread_ok o n h s ≡ true
  unfolding spread_ok smallest greatest divisor spread
  spread_complete [] e z v = absurd (omega (arith, sym (width_zero o) ∙ v.width_is))
  spread_complete (x ∷ xs) e z v =
      let r = spread_range x xs e z v in
      let k : length (x ∷ xs) ≡ n = ap length (sym e) ∙ length_numbers o w n s in
      true_both _ _
      (spare_complete o s (n * w) length_is byte
      (λ j l.
      subst (λ (b : List ℕ). (sound_of o).order.bit_of 8 b j ≡ 0) (sym ((sound_of o).packs w (x ∷ xs)) ∙ r.1)
      (spare_packed (sound_of o).orderly w (x ∷ xs) j (subst (λ (i : ℕ). i * w ≤ j) (sym k) l))))
      (rw e (numbers_from x xs e ∙ r.0))

  -- ---- the tests and the section

  values_sound : values_ok o n h s ≡ true → MadeOf o n h s (vs (numbers_in o w n s))
  unfolding values_ok
  values_sound t =
      equal_or w 0
      (λ z. equal_sound (numbers_in o w n s) refl z (rw (eq-eqb w 0 z) at t))
      (λ z. spread_sound (numbers_in o w n s) refl (omega arith) (rw (ne_eqb w 0 z) at t))

  values_complete : MadeOf o n h s (vs (numbers_in o w n s)) → values_ok o n h s ≡ true
  unfolding values_ok
  values_complete v =
      equal_or w 0
      (λ z. rw (eq-eqb w 0 z) (equal_complete (numbers_in o w n s) refl z v))
      (λ z. rw (ne_eqb w 0 z) (spread_complete (numbers_in o w n s) refl (omega arith) v))

-- ---- as the codec says it

made_of : (o : Order) {n : ℕ} {h : Fields} {s : List ℕ} (v : ValuesOf (scaled (packing_of o)) n h s) → MadeOf o n h s v.values
made_of o {n} {h} {s} v =
    let p = sym (scaled_fields (packing_of o) v.values) ∙ v.fields in
    record {
      count = v.count;
      fit = v.fit;
      bytes = sym (scaled_section (packing_of o) v.values) ∙ v.bytes;
      width_is = ap (λ (k : Fields). k.width) p;
      smallest_is = ap (λ (k : Fields). k.smallest) p;
      divisor_is = ap (λ (k : Fields). k.divisor) p;
    }

values_of : (o : Order) {n : ℕ} {h : Fields} {s : List ℕ} {vs : List ℤ} → MadeOf o n h s vs → ValuesOf (scaled (packing_of o)) n h s
values_of o {n} {h} {s} {vs} p =
    record {
      values = vs;
      fit = p.fit;
      taken = scaled_takes (packing_of o) vs;
      fields = scaled_fields (packing_of o) vs ∙ (λ i. record { width = p.width_is i; smallest = p.smallest_is i; divisor = p.divisor_is i });
      bytes = scaled_section (packing_of o) vs ∙ p.bytes;
      count = p.count;
    }

-- the tests take just what some n values are written as
pub scaled_tested : (o : Order) → Tested (scaled (packing_of o)) (values_ok o)
unfolding values_from
scaled_tested o =
    record {
      sound = λ n h s k t. values_of o (values_sound o n h s (rules_kept o _ _ _ k.rules) k.small.1.0 k.bytes t);
      complete = λ n h s k v.
          let law = scaled_lawful (packing_of o) (sound_of o) in
          let d = all_held o n h s v.values (values_decoded (scaled (packing_of o)) law n h s k.few v) in
          values_complete o n h s (rules_kept o _ _ _ k.rules) k.small.1.0 k.bytes (subst (MadeOf o n h s) (sym d.same) (made_of o v));
    }
