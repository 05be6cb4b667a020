-- The bit that is set after so many others: within a long, and long by long. Assumes nothing.
use Rattle.format.specs.Kit.{◌≡◌, refl, ap, ◌∙◌, List, some, ℕ, zero, suc, ◌+◌, ◌-◌, ◌*◌, ◌/◌, ◌%◌, ◌^◌, ◌≤◌, ◌<◌, arith, ones_in, count_trailing_zeros}
use Rattle.format.specs.Kit.{mod-eq_of_lt}
use Rattle.format.specs.Kit.{eq-eqb, ne_eqb}
use Rattle.format.specs.Bytes.{low_at}
use Rattle.laws.proofs.Cases.{below_or, equal_or}
use Rattle.next_in_block.proofs.Trailing.{first_set}
use Rattle.format.specs.PairAt.{bit_after}
use Rattle.laws.proofs.LongBits.{none_below, one_bit, clear_bits, split_ones}

module _ (long : ℕ) (small : long < 2 ^ 64) where
  whole_long : ones_in 64 (long % 2 ^ 64) ≡ ones_in 64 long
  whole_long = ap (ones_in 64) (mod-eq_of_lt small)

  -- the next one from bit y on
  module _ (y : ℕ) (h : y ≤ 64) (l : ones_in 64 (long % 2 ^ y) < ones_in 64 long) where
    abbrev d : ℕ
    d = y + count_trailing_zeros 64 (long / 2 ^ y)

    clear_to : (n : ℕ) → y + n ≤ d → y + n ≤ 64 → ones_in 64 (long % 2 ^ (y + n)) ≡ ones_in 64 (long % 2 ^ y)
    clear_to n u v = clear_bits long y n v (λ j a b. (first_set long y).clear j a (omega arith))

    pub next_one : d < 64
    next_one =
        below_or d 64 (λ g. g)
        (λ g.
        let e : y + (64 - y) ≡ 64 = omega arith in
        let c = rw e at (clear_to (64 - y) (omega arith) (omega arith)) in
        absurd (omega (arith, c, whole_long)))

    pub ones_to : ones_in 64 (long % 2 ^ d) ≡ ones_in 64 (long % 2 ^ y)
    ones_to = clear_to (count_trailing_zeros 64 (long / 2 ^ y)) (omega arith) (omega (arith, next_one))

    pub is_one : long / 2 ^ d % 2 ≡ 1
    is_one = (first_set long y).is_set next_one

    pub ones_past : ones_in 64 (long % 2 ^ (d + 1)) ≡ ones_in 64 (long % 2 ^ y) + 1
    ones_past = omega (arith, one_bit long d next_one, ones_to, is_one)

  ones_most : (e : ℕ) → e ≤ 64 → ones_in 64 (long % 2 ^ e) ≤ ones_in 64 long
  ones_most e h = omega (arith, split_ones long e h small)

  ones_mono : (e n : ℕ) → e + n ≤ 64 → ones_in 64 (long % 2 ^ e) ≤ ones_in 64 (long % 2 ^ (e + n))
  ones_mono e zero h = let z : e + 0 ≡ e = omega arith in rw z (omega arith)
  ones_mono e (suc n) h =
      let z : e + suc n ≡ e + n + 1 = omega arith in
      rw z (omega (arith, ones_mono e n (omega arith), one_bit long (e + n) (omega arith)))

-- ---- the longs at m

module _ (s : List ℕ) (m q : ℕ) (small : low_at 8 s (m + 8 * q) < 2 ^ 64) where
  abbrev long : ℕ
  long = low_at 8 s (m + 8 * q)

  abbrev under : ℕ → ℕ
  under e = ones_in 64 (long % 2 ^ e)

  -- a bit that is not the one
  passed_bit : (k e j : ℕ) → e < 64 → under (e + 1) ≤ j → bit_after s m (suc k) (64 * q + e) (j - under e)
      ≡ bit_after s m k (64 * q + (e + 1)) (j - under (e + 1))
  unfolding bit_after
  passed_bit k e j h l =
      let a : (64 * q + e) / 64 ≡ q = omega arith in
      let b : (64 * q + e) % 64 ≡ e = omega arith in
      let up : suc (64 * q + e) ≡ 64 * q + (e + 1) = omega arith in
      let one = one_bit long e h in
      let left : j - under e - long / 2 ^ e % 2 ≡ j - under (e + 1) = omega (arith, one) in
      rw (a, b, up, left)
      (equal_or (long / 2 ^ e % 2) 1
      (λ z. rw (eq-eqb (long / 2 ^ e % 2) 1 z, ne_eqb (j - under e) 0 (λ y. omega (arith, one))) refl)
      (λ z. rw (ne_eqb (long / 2 ^ e % 2) 1 z) refl))

  -- all bits of the long from e on
  passed_bits : (n e k j : ℕ) → e + n ≡ 64 → ones_in 64 long ≤ j → bit_after s m (n + k) (64 * q + e) (j - under e)
      ≡ bit_after s m k (64 * q + 64) (j - ones_in 64 long)
  passed_bits zero e k j h l =
      let z : e ≡ 64 = omega arith in
      let k0 : 0 + k ≡ k = omega arith in
      rw (z, k0, whole_long long small) refl
  passed_bits (suc n) e k j h l =
      let u : suc n + k ≡ suc (n + k) = omega arith in
      rw u (passed_bit (n + k) e j (omega arith) (omega (arith, ones_most long small (e + 1) (omega arith), l)) ∙ passed_bits n (e + 1) k j (omega arith) l)

  pub long_passed : (k j : ℕ) → ones_in 64 long ≤ j → bit_after s m (64 + k) (64 * q) j ≡ bit_after s m k (64 * q + 64) (j - ones_in 64 long)
  long_passed k j l =
      let z : 64 * q + 0 ≡ 64 * q = omega arith in
      let w = passed_bits 64 0 k j refl l in
      let y : j - under 0 ≡ j = omega (arith, none_below long) in
      rw (z, y) at w

  module _ (y j : ℕ) (h : y < 64) (is_set : long / 2 ^ y % 2 ≡ 1) (before : under y ≡ j) where
    one_here : (n e k : ℕ) → e + n ≡ y → bit_after s m (suc (n + k)) (64 * q + e) (j - under e) ≡ some (64 * q + y)
    unfolding bit_after
    one_here zero e k u =
        let z : e ≡ y = omega arith in
        let a : (64 * q + y) / 64 ≡ q = omega arith in
        let b : (64 * q + y) % 64 ≡ y = omega arith in
        let none_left : j - under y ≡ 0 = omega (arith, before) in
        rw (z, a, b, is_set, none_left) refl
    one_here (suc n) e k u =
        let v : suc n + k ≡ suc (n + k) = omega arith in
        let z : e + 1 + n ≡ y = omega arith in
        let few : under (e + 1) ≤ under y = rw z at (ones_mono long small (e + 1) n (omega arith)) in
        rw v (passed_bit (suc (n + k)) e j (omega arith) (omega (arith, few, before)) ∙ one_here n (e + 1) k z)

    pub bit_found : (k : ℕ) → y < k → bit_after s m k (64 * q) j ≡ some (64 * q + y)
    bit_found k l =
        let u : suc (y + (k - suc y)) ≡ k = omega arith in
        let z : 64 * q + 0 ≡ 64 * q = omega arith in
        let x : j - under 0 ≡ j = omega (arith, none_below long) in
        let w = one_here y 0 (k - suc y) (omega arith) in
        rw (u, z, x) at w
