-- The loop over the stored numbers: one more, none left, and when the rest cannot change the answer: once 0, the top bit and the divisor 1
-- were seen they stay, and no number of the width is greater than the one that is known to fit. Assumes nothing.
use Rattle.std.specs.Prelude.{Some, None, is_some}
use Rattle.std.specs.declared.option.Option as Op
use Rattle.answers.specs.Replies.{fetched_of}
use Rattle.format.specs.Kit.{◌≡◌, refl, sym, ap, ap₂, ◌∙◌, Bool, true, false, ◌&&◌, List, ◌∷◌, none, some, ℕ, suc, ◌+◌, ◌-◌, ◌*◌, ◌^◌, ◌<◌}
use Rattle.format.specs.Kit.{◌≤◌, min, max, pow-suc, add-one, arith, eqb, leb, ℤ, pow_pos, length, drop}
use Rattle.format.specs.Kit.{drop_of_length-le, drop-cons, eqb-true, eq-eqb, leb-true, le-leb}
use Rattle.format.specs.HeaderNumbers.{unzigzag}
use Rattle.format.specs.Values.{fits64, gcd, gcd_from, value_at}
use Rattle.format.specs.Pairs.{Fits}
use Rattle.format.specs.Codec.{Fields, signed64}
use Rattle.laws.proofs.Digits.{below_drop}
use Rattle.laws.proofs.Fits.{unzigzag_fits}
use Rattle.scaling.specs.Reciprocal.{Reciprocal}
use Rattle.packings.specs.declared.Order.{Order}
use Rattle.packings.specs.Packings.{packing_of, narrower_by}
use Rattle.packings.proofs.Packings.{fetch_small}
use Rattle.scaled_values.specs.Held.{numbers_in, value_from}
use Rattle.scaled_values.proofs.Facts.{Rules}
use Rattle.scaled_values.proofs.Held.{numbers_below, length_numbers, number_at_lem}
use Rattle.laws.proofs.Gcd.{gcd_From_one}
use Rattle.scaled_check.specs.ValuesOk.{range_ok, numbers_ok}
use Rattle.scaling.specs.declared.Range.{Range}
use Rattle.scaled_check.specs.Numbered.{Known, ok_from, ranged}
use Rattle.scaling.specs.Numbers.{least_from, most_from}
use Rattle.scaling.proofs.Stored.{most_first, fits_below}
use Rattle.scaling.proofs.Ranged.{most_below, least_le}
use Rattle.scaled_check.proofs.Tested.{numbers_are}
use Rattle.laws.proofs.Tests.{both_true, true_both}

-- ---- whether a value fits, by what is fetched

module _ (v : ℤ) where
  kept_in : (z : ℤ) → signed64 v ≡ some z → true ≡ fits64 v
  unfolding signed64
  kept_in z e = go (fits64 v) refl
    where
      go : (t : Bool) → fits64 v ≡ t → true ≡ fits64 v
      go true q = sym q
      go false q = let k = rw q at e in absurd (let y : ◌≡◌ {A = ℕ} 0 1 = cc in omega arith)

  kept_out : signed64 v ≡ none → false ≡ fits64 v
  unfolding signed64
  kept_out e = go (fits64 v) refl
    where
      go : (t : Bool) → fits64 v ≡ t → false ≡ fits64 v
      go false q = sym q
      go true q = let k = rw q at e in absurd (let y : ◌≡◌ {A = ℕ} 0 1 = cc in omega arith)

  pub some_fits : (r : Op.Option ℤ) → fetched_of r ≡ signed64 v → is_some r ≡ fits64 v
  some_fits (Some z) e = kept_in z (sym e)
  some_fits None e = kept_out (sym e)

-- ---- the loop

module _ (o : Order) (n : ℕ) (h : Fields) (s : List ℕ) where
  abbrev xs : List ℕ
  xs = numbers_in o h.width n s

  turn : (lo hi d i : ℕ) → i < n
      → let x = (packing_of o).fetch s h.width i in numbers_ok o h lo hi d (drop i xs) ≡ numbers_ok o h (min lo x) (max hi x) (gcd d x) (drop (i + 1) xs)
  unfolding numbers_ok
  turn lo hi d i k =
      let l : i < length xs = omega (arith, length_numbers o h.width n s) in
      ap (numbers_ok o h lo hi d) (drop-cons xs i 0 l ∙ ap₂ {C = List ℕ} (λ (x n : ℕ). x ∷ drop n xs) (number_at_lem o h.width n s i k) (sym (add-one i)))

  end : (lo hi d i : ℕ) → n ≤ i → numbers_ok o h lo hi d (drop i xs) ≡ range_ok o h lo hi d
  unfolding numbers_ok
  end lo hi d i k = let l : length xs ≤ i = omega (arith, length_numbers o h.width n s) in rw drop_of_length-le

  -- a number within lo and hi that d divides changes nothing
  pub kept : (lo hi d i : ℕ) → i < n → let x = (packing_of o).fetch s h.width i in lo ≤ x → x ≤ hi → gcd d x ≡ d
      → ok_from o n h s (i + 1) lo hi d ≡ ok_from o n h s i lo hi d
  kept lo hi d i k a b e =
      let x : ℕ = (packing_of o).fetch s h.width i in
      let p : min lo x ≡ lo = omega (arith, a) in
      let q : max hi x ≡ hi = omega (arith, b) in
      sym (turn lo hi d i k ∙ rw (p, q, e))

  -- where 0, the top bit and the divisor 1 were seen, and the greatest number of the width would fit
  settled_is : Rules o n h (length s) → h.smallest < 2 ^ 64 → (lo hi d i : ℕ) → hi < 2 ^ h.width → fits64 (value_from h (2 ^ h.width - 1)) ≡ true
      → (eqb lo 0 && leb (2 ^ narrower_by o h.width) hi && eqb d 1) ≡ true → numbers_ok o h lo hi d (drop i xs) ≡ true
  unfolding range_ok Fits
  settled_is f small lo hi d i b sure t =
      let l : List ℕ = drop i xs in
      let r = both_true _ _ t in
      let q = both_true _ _ r.0 in
      let low : lo ≡ 0 = eqb-true _ _ q.0 in
      let top : 2 ^ narrower_by o h.width ≤ hi = leb-true _ _ q.1 in
      let hi-lt : most_from hi l < 2 ^ h.width = most_below (2 ^ h.width) hi l b (below_drop _ i xs (numbers_below o h.width n s)) in
      let m_fits : Fits (unzigzag h.smallest) = unzigzag_fits h.smallest small in
      let fit : Fits (value_at (unzigzag h.smallest) h.divisor (most_from hi l)) =
      fits_below (unzigzag h.smallest) h.divisor f.positive (most_from hi l) (2 ^ h.width - 1) m_fits sure (omega arith) in
      numbers_are o h lo hi d l
      ∙ true_both _ _
      (true_both _ _
      (true_both _ _ (eq-eqb (least_from lo l) 0 (omega (arith, least_le lo l)))
      (le-leb (2 ^ narrower_by o h.width) (most_from hi l) (omega (arith, most_first hi l))))
      (eq-eqb (gcd_from d l) 1 (ap (λ (k : ℕ). gcd_from k l) (eqb-true _ _ r.1) ∙ gcd_From_one l)))
      fit

-- ---- with the code's own numbers

-- the greatest number of w bits
pub most_is : (w half : ℕ) → 0 < w → half ≡ 2 ^ (w - 1) → half - 1 + half ≡ 2 ^ w - 1
most_is w half z e =
    let k : w ≡ suc (w - 1) = omega (arith, z) in
    let q : 2 ^ w ≡ 2 ^ (w - 1) * 2 = ap (λ (i : ℕ). 2 ^ i) k ∙ pow-suc 2 (w - 1) in
    omega (arith, pow_pos (w - 1), e)

-- all numbers are within the section
pub enough : {o : Order} {n : ℕ} {h : Fields} (s : List ℕ) → Rules o n h (length s) → n * h.width ≤ 8 * length s
enough s f = omega (arith, f.bytes)

-- the numbers from i on make of the range the answer; m serves for divisions by its divisor
pub record Turn (o : Order) (n : ℕ) (h : Fields) (s : List ℕ) (answer : Bool) (r : Range) (m i : ℕ) : Type 0 where
  pub below : r.hi < 2 ^ h.width
  pub same : ranged o n h s i r ≡ answer
  pub quick : Reciprocal r.common m

pub next : {o : Order} {n : ℕ} {h : Fields} {s : List ℕ} {answer : Bool} {r : Range} {m i : ℕ} → Turn o n h s answer r m i → i < n
    → {x lo2 hi2 g2 m2 : ℕ} → x ≡ (packing_of o).fetch s h.width i → lo2 ≡ min r.lo x → hi2 ≡ max r.hi x → g2 ≡ gcd r.common x
    → Reciprocal g2 m2 → Turn o n h s answer (record { lo = lo2; hi = hi2; common = g2 }) m2 (i + 1)
next {o} {n} {h} {s} {answer} {r} {m} {i} t k e el eh eg q =
    record {
      below = omega (arith, fetch_small o s h.width i, t.below);
      same = sym (turn o n h s r.lo r.hi r.common i k ∙ rw (el, eh, eg, e)) ∙ t.same;
      quick = q;
    }

module _ {o : Order} {h : Fields} {sure : Bool} {top : ℕ} (p : Known o h sure top) (n : ℕ) (s : List ℕ) (lo hi g i : ℕ) where
  -- the rest cannot change the answer
  pub stops : Rules o n h (length s) → hi < 2 ^ h.width → {over : Bool} → over ≡ (sure && (eqb lo 0 && leb top hi && eqb g 1)) → over ≡ true
      → ok_from o n h s i lo hi g ≡ true
  stops f b eo ov =
      let r = both_true sure (eqb lo 0 && leb top hi && eqb g 1) (sym eo ∙ ov) in
      let q : (eqb lo 0 && leb top hi && eqb g 1) ≡ true = r.1 in
      settled_is o n h s f p.small lo hi g i b (sym p.sure_is ∙ r.0) (rw p.top_is at q)

  -- none is left
  pub ended : n ≤ i → {b r : Bool} → b ≡ (eqb lo 0 && leb top hi && eqb g 1) → r ≡ (b && fits64 (value_from h hi)) → r ≡ ok_from o n h s i lo hi g
  unfolding range_ok
  ended k {b} {r} e er = er ∙ sym (end o n h s lo hi g i k ∙ rw (e, p.top_is))
