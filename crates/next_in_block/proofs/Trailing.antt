-- The zeros below a number's lowest set digit. Assumes nothing.
use Rattle.format.specs.Kit.{◌≡◌, refl, sym, ℕ, zero, suc, ◌+◌, ◌-◌, ◌/◌, ◌%◌, ◌^◌, ◌<◌, pow-zero, pow-succ', div-div-eq-div-mul, arith, count_trailing_zeros}
use Rattle.format.specs.Kit.{shr-shr}
use Rattle.format.specs.Kit.{under, trailing_le}
use Rattle.next_in_block.specs.First.{FirstBit}

at_zero : (n : ℕ) → n / 2 ^ 0 ≡ n
at_zero n = rw (pow-zero 2) (omega arith)

at_suc : (n j : ℕ) → n / 2 ^ suc j ≡ n / 2 / 2 ^ j
at_suc n j = rw (pow-succ' 2 j) (sym (div-div-eq-div-mul n 2 (2 ^ j)))

tz_clear : (k n j : ℕ) → j < count_trailing_zeros k n → n / 2 ^ j % 2 ≡ 0
unfolding count_trailing_zeros
tz_clear zero n j h = absurd (omega arith)
tz_clear (suc k) n zero h = rw (at_zero n) (by (n % 2) h)
  where
    by : (d : ℕ) → 0 < under d (count_trailing_zeros k (n / 2)) → d ≡ 0
    by zero l = refl
    by (suc d) l = absurd (omega arith)
tz_clear (suc k) n (suc j) h = rw (at_suc n j) (tz_clear k (n / 2) j (by (n % 2) h))
  where
    by : (d : ℕ) → suc j < under d (count_trailing_zeros k (n / 2)) → j < count_trailing_zeros k (n / 2)
    by zero l = omega arith
    by (suc d) l = absurd (omega arith)

tz_set : (k n : ℕ) → count_trailing_zeros k n < k → n / 2 ^ count_trailing_zeros k n % 2 ≡ 1
unfolding count_trailing_zeros
tz_set zero n h = absurd (omega arith)
tz_set (suc k) n h = by (n % 2) refl h (tz_set k (n / 2))
  where
    by : (d : ℕ) → n % 2 ≡ d → under d (count_trailing_zeros k (n / 2)) < suc k → (count_trailing_zeros k (n / 2) < k → n / 2 / 2 ^ count_trailing_zeros k (n / 2) % 2 ≡ 1)
        → n / 2 ^ under d (count_trailing_zeros k (n / 2)) % 2 ≡ 1
    by zero e l i = rw (at_suc n (count_trailing_zeros k (n / 2))) (i (omega arith))
    by (suc d) e l i = rw (at_zero n) (omega arith)

-- the first set bit from b on
pub first_set : (long b : ℕ) → FirstBit long b (b + count_trailing_zeros 64 (long / 2 ^ b))
first_set long b =
    record {
      from = omega arith;
      most = omega (arith, trailing_le 64 (long / 2 ^ b));
      clear = λ j h l.
          let e : b + (j - b) ≡ j = omega arith in
          let f = tz_clear 64 (long / 2 ^ b) (j - b) (omega arith) in
          rw (shr-shr long b (j - b), e) at f;
      is_set = λ l. rw (shr-shr long b (count_trailing_zeros 64 (long / 2 ^ b))) at (tz_set 64 (long / 2 ^ b) (omega arith));
    }
