-- The loop over a run's stored numbers: one more, and none left; and numbers of no bits. Assumes nothing.
use Rattle.format.specs.Kit.{◌≡◌, refl, sym, ap, ap₂, ◌∙◌, List, [], ◌∷◌, ℕ, ◌+◌, ◌*◌, ◌/◌, ◌%◌, ◌^◌, ◌<◌, ◌≤◌, min, max, add-one, arith}
use Rattle.format.specs.Kit.{bit_and, and_mask, length, drop, drop-cons, drop_of_length-le}
use Rattle.format.specs.Bits.{fetched, unpacked}
use Rattle.format.specs.Values.{gcd, gcd_from}
use Rattle.format.specs.Pairs.{Below}
use Rattle.laws.proofs.Bits.{fetched_is, unpacked_below, length_unpacked}
use Rattle.laws.proofs.Gcd.{gcd_zero}
use Rattle.packing.proofs.Join.{place_next}
use Rattle.scaling.specs.Numbers.{least_from, most_from}
use Rattle.scaling.specs.Reciprocal.{Reciprocal}
use Rattle.run_check.specs.RunsOk.{largest}

-- ---- numbers of no bits

all_zero : (xs : List ℕ) (a : ℕ) → Below 1 xs → (least_from 0 xs ≡ 0) × (most_from 0 xs ≡ 0) × (gcd_from a xs ≡ a)
unfolding least_from most_from gcd_from
all_zero [] a t = (refl, refl, refl)
all_zero (x ∷ xs) a t =
    let z : x ≡ 0 = omega (arith, t.0) in
    let m : min 0 x ≡ 0 = omega arith in
    let n : max 0 x ≡ 0 = omega arith in
    let more = all_zero xs a t.1 in
    (ap (λ (k : ℕ). least_from k xs) m ∙ more.0, ap (λ (k : ℕ). most_from k xs) n ∙ more.1, ap (λ (k : ℕ). gcd_from k xs) (ap (gcd a) z ∙ gcd_zero a) ∙ more.2)

least_zero : (xs : List ℕ) → 0 < length xs → Below 1 xs → least_from largest xs ≡ 0
unfolding least_from
least_zero [] h t = absurd (omega arith)
least_zero (x ∷ xs) h t = let m : min largest x ≡ 0 = omega (arith, t.0) in ap (λ (k : ℕ). least_from k xs) m ∙ (all_zero xs 0 t.1).0

pub no_bits : (w n : ℕ) (s : List ℕ) (d : ℕ) → w ≡ 0 → 0 < n
    → (0 ≡ least_from largest (unpacked w n s)) × (0 ≡ most_from 0 (unpacked w n s)) × (d ≡ gcd_from d (unpacked w n s))
no_bits w n s d z h =
    let xs : List ℕ = unpacked w n s in
    let u : Below 1 xs = rw (ap (λ (k : ℕ). 2 ^ k) z) at (unpacked_below w n s) in
    let a = all_zero xs d u in
    (sym (least_zero xs (omega (arith, length_unpacked w n s)) u), sym a.1, sym a.2)

-- ---- the loop

-- the numbers from i on, the first of which stands after the first skip bits of byte at, make of lo, hi and g what all make of the first
-- ones; m serves for divisions by g
pub record Turn (w n : ℕ) (s : List ℕ) (d lo hi g m i at skip : ℕ) : Type 0 where
  pub inside : i ≤ n
  pub least : least_from lo (drop i (unpacked w n s)) ≡ least_from largest (unpacked w n s)
  pub most : most_from hi (drop i (unpacked w n s)) ≡ most_from 0 (unpacked w n s)
  pub common : gcd_from g (drop i (unpacked w n s)) ≡ gcd_from d (unpacked w n s)
  pub quick : Reciprocal g m
  pub place : at * 8 + skip ≡ i * w
  pub few : skip < 8

module _ {w n : ℕ} {s : List ℕ} {d lo hi g m i at skip : ℕ} (t : Turn w n s d lo hi g m i at skip) where
  abbrev xs : List ℕ
  xs = unpacked w n s

  one_more : i < n → drop i xs ≡ fetched s w i ∷ drop (i + 1) xs
  one_more k =
      let l : i < length xs = omega (arith, length_unpacked w n s) in
      drop-cons xs i 0 l ∙ ap₂ {C = List ℕ} (λ (x n : ℕ). x ∷ drop n xs) (fetched_is w n s i k) (sym (add-one i))

  pub next : i < n → {x lo2 hi2 g2 m2 : ℕ} → x ≡ fetched s w i → lo2 ≡ min lo x → hi2 ≡ max hi x → g2 ≡ gcd g x → Reciprocal g2 m2
      → Turn w n s d lo2 hi2 g2 m2 (i + 1) (at + (skip + w) / 8) (bit_and (skip + w) 7)
  unfolding least_from most_from gcd_from
  next k e el eh eg r =
      let mask : bit_and (skip + w) 7 ≡ (skip + w) % 8 = and_mask (skip + w) 3 in
      record {
        inside = omega arith;
        least = sym (ap (least_from lo) (one_more k) ∙ rw (el, e)) ∙ t.least;
        most = sym (ap (most_from hi) (one_more k) ∙ rw (eh, e)) ∙ t.most;
        common = sym (ap (gcd_from g) (one_more k) ∙ rw (eg, e)) ∙ t.common;
        quick = r;
        place = rw mask (place_next i w at skip t.place);
        few = omega arith;
      }

  -- none is left
  pub ended : n ≤ i → (lo ≡ least_from largest xs) × (hi ≡ most_from 0 xs) × (g ≡ gcd_from d xs)
  unfolding least_from most_from gcd_from
  ended k =
      let none : drop i xs ≡ [] = drop_of_length-le xs {i = i} (omega (arith, length_unpacked w n s)) in
      (rw none at t.least, rw none at t.most, rw none at t.common)
