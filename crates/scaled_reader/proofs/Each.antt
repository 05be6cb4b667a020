-- Values fetched one after the other: the next one, and that it is worked out without a wrap. Assumes nothing.
use Rattle.format.specs.Kit.{◌≡◌, refl, sym, ap, ap₂, ◌∙◌, subst, List, [], ◌∷◌, ◌++◌, map, ℕ, zero, suc, ◌+◌, ◌*◌, ◌^◌, ◌<◌, ◌≤◌}
use Rattle.format.specs.Kit.{zero-mul, one-mul, add-zero, mul_comm, add-one, arith, dec_lt, ℤ, length, drop, set, get_or, length-map, drop-cons}
use Rattle.format.specs.Kit.{drop-length, sets, mag}
use Rattle.format.specs.HeaderNumbers.{unzigzag}
use Rattle.format.specs.Values.{value_at}
use Rattle.format.specs.Pairs.{Each, Fits}
use Rattle.format.specs.Codec.{Fields}
use Rattle.format.specs.Stores.{Fill}
use Rattle.signed.specs.Sign.{biased, unbiased}
use Rattle.laws.proofs.Fits.{fits_size, unzigzag_fits}
use Rattle.signed.proofs.Signs.{biased-+-out, unbiased-+}
use Rattle.packings.specs.declared.Order.{Order}
use Rattle.packings.specs.Packings.{packing_of, cut}
use Rattle.scaled_values.specs.Held.{numbers_in, value_from, values_from}
use Rattle.scaled_values.proofs.Held.{length_numbers, number_at_lem}
use Rattle.scaled_values.proofs.Facts.{rules_kept}
use Rattle.packing.proofs.Join.{window_inside}
use Rattle.scaled_reader.specs.Stored.{four_of, FourFit, Eights}
use Rattle.laws.proofs.Stores.{part_more}

-- ---- one value

-- the biased sum does not wrap, and is the value's biased form
pub record Sum (low step x : ℕ) (v : ℤ) : Type 0 where
  pub inside : low + x * step < 2 ^ 64
  pub value : unbiased (low + x * step) ≡ v

sum_is : (m : ℤ) (step x low : ℕ) → mag m < 2 ^ 63 → low ≡ biased m → Fits (value_at m step x) → Sum low step x (value_at m step x)
unfolding value_at
sum_is m step x low f e h =
    let s : low + x * step ≡ biased m + step * x = omega (arith, mul_comm x step) in
    let k : biased m + step * x < 2 ^ 64 = by (dec_lt (biased m + step * x) (2 ^ 64)) in
    record { inside = omega arith; value = ap unbiased s ∙ unbiased-+ m (step * x) f k }
  where
    by : Dec (biased m + step * x < 2 ^ 64) → biased m + step * x < 2 ^ 64
    by (yes k) = k
    by (no k) = absurd (omega (arith, fits_size _ h, biased-+-out m (step * x) f (omega arith)))

-- ---- all of them

each_fits : (fs : Fields) (xs : List ℕ) (i : ℕ) → i < length xs → Each Fits (values_from fs xs) → Fits (value_from fs (get_or xs i 0))
unfolding values_from
each_fits fs [] i h t = absurd (omega arith)
each_fits fs (x ∷ xs) zero h t = t.0
each_fits fs (x ∷ xs) (suc i) h t = each_fits fs xs i (omega arith) t.1

pub length_values : (o : Order) (fs : Fields) (w n : ℕ) (s : List ℕ) → length (values_from fs (numbers_in o w n s)) ≡ n
unfolding values_from
length_values o fs w n s = length-map (numbers_in o w n s) (value_from fs) ∙ length_numbers o w n s

values_cons : (fs : Fields) (xs : List ℕ) (i : ℕ) → i < length xs
    → values_from fs (drop i xs) ≡ value_from fs (get_or xs i 0) ∷ values_from fs (drop (suc i) xs)
unfolding values_from
values_cons fs xs i h = rw (drop-cons xs i 0 h)

module _ (o : Order) (fs : Fields) (w n : ℕ) (s : List ℕ) where
  -- value i, and those after it
  pub values_more : (i : ℕ) → i < n
      → values_from fs (drop i (numbers_in o w n s)) ≡ value_from fs ((packing_of o).fetch s w i) ∷ values_from fs (drop (i + 1) (numbers_in o w n s))
  values_more i h =
      values_cons fs (numbers_in o w n s) i (omega (arith, length_numbers o w n s))
      ∙ ap₂ {C = List ℤ} (λ (x j : ℕ). value_from fs x ∷ values_from fs (drop j (numbers_in o w n s))) (number_at_lem o w n s i h) (sym (add-one i))

  pub values_end : (i : ℕ) → i ≡ n → values_from fs (drop i (numbers_in o w n s)) ≡ []
  unfolding values_from
  values_end i e =
      ap (λ (l : List ℕ). map (value_from fs) l)
      (ap (λ (k : ℕ). drop k (numbers_in o w n s)) (e ∙ sym (length_numbers o w n s)) ∙ drop-length (numbers_in o w n s))

  pub sum_at : (low i : ℕ) → fs.smallest < 2 ^ 64 → low ≡ biased (unzigzag fs.smallest) → i < n → Each Fits (values_from fs (numbers_in o w n s))
      → Sum low fs.divisor ((packing_of o).fetch s w i) (value_from fs ((packing_of o).fetch s w i))
  sum_at low i l e h t =
      sum_is (unzigzag fs.smallest) fs.divisor ((packing_of o).fetch s w i) low (fits_size _ (unzigzag_fits fs.smallest l)) e
      (rw (number_at_lem o w n s i h) at (each_fits fs (numbers_in o w n s) i (omega (arith, length_numbers o w n s)) t))

-- ---- four at once

-- four values stored one after the other
pub four_stored : (o : Order) (low step x w : ℕ) (l : List ℤ) {a b c d : List ℤ} (i : ℕ) → a ≡ set l i (unbiased (low + cut o x 0 w * step))
    → b ≡ set a (i + 1) (unbiased (low + cut o x w w * step)) → c ≡ set b (i + 2) (unbiased (low + cut o x (2 * w) w * step))
    → d ≡ set c (i + 3) (unbiased (low + cut o x (3 * w) w * step)) → d ≡ sets l i (four_of o low step x w)
four_stored o low step x w l i p0 p1 p2 p3 =
    let i1 : i + 1 ≡ suc i = omega arith in
    let i2 : i + 2 ≡ suc (suc i) = omega arith in
    let i3 : i + 3 ≡ suc (suc (suc i)) = omega arith in
    rw (p3, p2, p1, p0, i1, i2, i3)

-- the window at number i: its four numbers are the next ones
pub record Four (o : Order) (fs : Fields) (w n : ℕ) (s : List ℕ) (low i x : ℕ) : Type 0 where
  pub fit : FourFit o low fs.divisor x w
  pub next : values_from fs (drop i (numbers_in o w n s)) ≡ four_of o low fs.divisor x w ++ values_from fs (drop (i + 4) (numbers_in o w n s))

module _ (o : Order) (s : List ℕ) (w i x : ℕ) (next : (k : ℕ) → k * w + w ≤ 57 → cut o x (k * w) w ≡ (packing_of o).fetch s w (i + k)) where
  cut_is : (k a : ℕ) → a ≡ k * w → a + w ≤ 57 → cut o x a w ≡ (packing_of o).fetch s w (i + k)
  cut_is k a e h = ap (λ (j : ℕ). cut o x j w) e ∙ next k (omega (arith, e))

  pub four_at : (fs : Fields) (n low : ℕ) → fs.smallest < 2 ^ 64 → low ≡ biased (unzigzag fs.smallest) → w ≤ 14 → i + 4 ≤ n
      → Each Fits (values_from fs (numbers_in o w n s)) → Four o fs w n s low i x
  four_at fs n low l e narrow h t =
      let p0 = part 0 0 (sym (zero-mul w)) (omega arith) (omega arith) in
      let p1 = part 1 w (sym (one-mul w)) (omega arith) (omega arith) in
      let p2 = part 2 (2 * w) refl (omega arith) (omega arith) in
      let p3 = part 3 (3 * w) refl (omega arith) (omega arith) in
      record {
        fit = record { first = p0.inside; second = p1.inside; third = p2.inside; fourth = p3.inside };
        next =
            ap (λ (j : ℕ). values_from fs (drop j (numbers_in o w n s))) (sym (add-zero i))
            ∙ grow 0 (omega arith) p0 (grow 1 (omega arith) p1 (grow 2 (omega arith) p2 (grow 3 (omega arith) p3 refl)));
      }
    where
      part : (k a : ℕ) → a ≡ k * w → a + w ≤ 57 → i + k < n → Sum low fs.divisor (cut o x a w) (value_from fs ((packing_of o).fetch s w (i + k)))
      part k a u v b = rw (cut_is k a u v) (sum_at o fs w n s low (i + k) l e b t)

      grow : (k : ℕ) {y : ℕ} → i + k < n → Sum low fs.divisor y (value_from fs ((packing_of o).fetch s w (i + k))) → {more : List ℤ}
          → values_from fs (drop (i + suc k) (numbers_in o w n s)) ≡ more
          → values_from fs (drop (i + k) (numbers_in o w n s)) ≡ unbiased (low + y * fs.divisor) ∷ more
      grow k b p r =
          let u : i + k + 1 ≡ i + suc k = omega arith in
          values_more o fs w n s (i + k) b
          ∙ ap₂ {C = List ℤ} (λ (z : ℤ) (zs : List ℤ). z ∷ zs) (sym p.value) (ap (λ (j : ℕ). values_from fs (drop j (numbers_in o w n s))) u ∙ r)

-- the same four, by the width and the divisor themselves
pub four_fit : {o : Order} {fs : Fields} {n : ℕ} {s : List ℕ} {low i x : ℕ} → Four o fs fs.width n s low i x → {w g : ℕ} → w ≡ fs.width
    → g ≡ fs.divisor → FourFit o low g x w
four_fit {o} {fs} {n} {s} {low} {i} {x} q {w} {g} e d =
    subst (λ (v : ℕ). FourFit o low g x v) (sym e) (subst (λ (h : ℕ). FourFit o low h x fs.width) (sym d) q.fit)

-- a buffer with these four more
pub four_more : {o : Order} {fs : Fields} {w n : ℕ} {s : List ℕ} {low i x : ℕ} {d whole l : List ℤ}
    → Fill d 0 whole l i (values_from fs (drop i (numbers_in o w n s)))
    → Four o fs w n s low i x → {v : ℕ} → v ≡ w → {g : ℕ} → g ≡ fs.divisor → {m : List ℤ} → m ≡ sets l i (four_of o low g x v)
    → Fill d 0 whole m (i + 4) (values_from fs (drop (i + 4) (numbers_in o w n s)))
four_more {o} {fs} {w} {n} {s} {low} {i} {x} {d} {whole} {l} f q {v} e {g} u {m} h =
    part_more d 0 whole l i _ f m (i + 4) (four_of o low fs.divisor x w) _ q.next (h ∙ ap₂ (λ (k y : ℕ). sets l i (four_of o low y x k)) e u) refl

-- ---- eight at once

module _ {o : Order} {n : ℕ} {f : Fields} {s : List ℕ} {room w low g : ℕ} (q : Eights o n f s room w low g) where
  -- a window is within the section
  pub eights_inside : (i at skip : ℕ) → i + 64 ≤ n → at * 8 + skip ≡ i * w → at + 8 ≤ length s
  eights_inside i at skip h e =
      let k : n * w ≡ n * f.width = ap (λ (v : ℕ). n * v) q.width_is in
      window_inside i n w at skip (length s) q.some h (omega (arith, k, (rules_kept o n f (length s) q.rules).bytes)) e

  -- and holds the next four
  pub eights_four : (i x : ℕ) → i + 4 ≤ n → ((k : ℕ) → k * w + w ≤ 57 → cut o x (k * w) w ≡ (packing_of o).fetch s w (i + k))
      → Four o f f.width n s low i x
  eights_four i x h next =
      four_at o s f.width i x
      (subst (λ (v : ℕ). (k : ℕ) → k * v + v ≤ 57 → cut o x (k * v) v ≡ (packing_of o).fetch s v (i + k)) q.width_is next) f n low q.small q.low_is
      (omega (arith, q.narrow, q.width_is)) h q.fit

  -- a buffer with these and four more
  pub eight_more : {i x y : ℕ} {d whole l k m : List ℤ} → Fill d 0 whole l i (values_from f (drop i (numbers_in o f.width n s)))
      → Four o f f.width n s low i x → Four o f f.width n s low (i + 4) y → k ≡ sets l i (four_of o low g x w)
      → m ≡ sets k (i + 4) (four_of o low g y w) → Fill d 0 whole m (i + 8) (values_from f (drop (i + 8) (numbers_in o f.width n s)))
  eight_more {i} {x} {y} {d} {whole} {l} {k} {m} p a b u v =
      let e : i + 4 + 4 ≡ i + 8 = omega arith in
      subst (λ (j : ℕ). Fill d 0 whole m j (values_from f (drop j (numbers_in o f.width n s)))) e
      (four_more (four_more p a q.width_is q.step_is u) b q.width_is q.step_is v)
