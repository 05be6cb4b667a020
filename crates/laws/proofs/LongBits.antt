-- The ones below a bit of a long, one bit after the other, and from a bit on. Assumes nothing.
use Rattle.format.specs.Kit.{◌≡◌, refl, sym, ap₂, ◌∙◌, ℕ, zero, suc, ◌+◌, ◌-◌, ◌/◌, ◌%◌, ◌^◌, ◌≤◌, ◌<◌, arith, ones_in, ones, mod-lt, pow_pos, pow_mono}
use Rattle.format.specs.Kit.{pow-zero, mod-one, add-zero, ap, mod-eq_of_lt, shr_lt, lt_of_lt_of_le}
use Rattle.laws.proofs.Ones.{ones_in_lem, ones_bit, ones_join}

under : (long j : ℕ) → j ≤ 64 → ones_in 64 (long % 2 ^ j) ≡ ones (long % 2 ^ j)
under long j h = ones_in_lem 64 (long % 2 ^ j) (omega (arith, mod-lt long (pow_pos j), pow_mono {j = 64} h))

pub none_below : (long : ℕ) → ones_in 64 (long % 2 ^ 0) ≡ 0
none_below long = under long 0 (omega arith) ∙ rw (pow-zero, mod-one) (ones_bit 0 (omega arith))

pub one_bit : (long j : ℕ) → j < 64 → ones_in 64 (long % 2 ^ (j + 1)) ≡ ones_in 64 (long % 2 ^ j) + long / 2 ^ j % 2
one_bit long j h =
    under long (j + 1) (omega arith) ∙ ones_join long j 1 (j + 1) refl
    ∙ ap₂ ◌+◌ (sym (under long j (omega arith))) (ones_bit (long / 2 ^ j % 2) (omega arith))

-- bits that are clear
pub clear_bits : (long d n : ℕ) → d + n ≤ 64 → ((j : ℕ) → d ≤ j → j < d + n → long / 2 ^ j % 2 ≡ 0) → ones_in 64 (long % 2 ^ (d + n)) ≡ ones_in 64 (long % 2 ^ d)
clear_bits long d zero h f = rw (add-zero d) refl
clear_bits long d (suc n) h f =
    let e : d + suc n ≡ d + n + 1 = omega arith in
    rw e (one_bit long (d + n) (omega arith) ∙ rw (f (d + n) (omega arith) (omega arith)) (add-zero _))
    ∙ clear_bits long d n (omega arith) (λ j a b. f j a (omega arith))

-- the ones of a long below 2^64, up to bit d and from there on
pub split_ones : (long d : ℕ) → d ≤ 64 → long < 2 ^ 64 → ones_in 64 (long % 2 ^ d) + ones_in 64 (long / 2 ^ d) ≡ ones_in 64 long
split_ones long d h l =
    let e : d + (64 - d) ≡ 64 = omega arith in
    let j = ones_join long d (64 - d) 64 e in
    let f : 64 - d + d ≡ 64 = omega arith in
    let up : long / 2 ^ d < 2 ^ (64 - d) = shr_lt (64 - d) d (rw f l) in
    let top : long / 2 ^ d < 2 ^ 64 = lt_of_lt_of_le up (pow_mono {j = 64} (omega arith)) in
    let low : long % 2 ^ d < 2 ^ 64 = lt_of_lt_of_le (mod-lt long (pow_pos d)) (pow_mono {j = 64} h) in
    let a : ones (long % 2 ^ 64) ≡ ones long = ap ones (mod-eq_of_lt l) in
    let b : ones (long / 2 ^ d % 2 ^ (64 - d)) ≡ ones (long / 2 ^ d) = ap ones (mod-eq_of_lt up) in
    omega (arith, j, a, b, ones_in_lem 64 long l, ones_in_lem 64 (long / 2 ^ d) top, ones_in_lem 64 (long % 2 ^ d) low)
