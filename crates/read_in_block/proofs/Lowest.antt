-- A number's lowest set bit: in the number moved up, and taken away. Assumes nothing.
use Rattle.format.specs.Kit.{◌≡◌, refl, sym, ap, ◌∙◌, ℕ, zero, suc, ◌+◌, ◌-◌, ◌*◌, ◌/◌, ◌%◌, ◌^◌, ◌<◌, ◌≤◌, pow-succ', pow-zero, pow-add, mul_assoc}
use Rattle.format.specs.Kit.{mul_comm, add-mul, mul-one, div-div-eq-div-mul, arith, count_trailing_zeros}
use Rattle.laws.proofs.SetBits.{odd_or}

zeros_odd : (k w : ℕ) → w % 2 ≡ 1 → count_trailing_zeros (suc k) w ≡ 0
unfolding count_trailing_zeros
zeros_odd k w h = rw h

zeros_even : (k w : ℕ) → w % 2 ≡ 0 → count_trailing_zeros (suc k) w ≡ suc (count_trailing_zeros k (w / 2))
unfolding count_trailing_zeros
zeros_even k w h = rw h

twice : (n d : ℕ) → n * 2 ^ suc d ≡ 2 * (n * 2 ^ d)
twice n d = ap (λ (x : ℕ). n * x) (pow-succ' 2 d) ∙ sym (mul_assoc n 2 (2 ^ d)) ∙ ap (λ (x : ℕ). x * 2 ^ d) (mul_comm n 2) ∙ mul_assoc 2 n (2 ^ d)

-- moved up by d places
zeros_up : (d k n : ℕ) → count_trailing_zeros (d + k) (n * 2 ^ d) ≡ d + count_trailing_zeros k n
zeros_up zero k n =
    let a : zero + k ≡ k = omega arith in
    let b : n * 2 ^ 0 ≡ n = rw (pow-zero 2) (mul-one n) in
    rw (a, b) (omega arith)
zeros_up (suc d) k n =
    let a : suc d + k ≡ suc (d + k) = omega arith in
    let e = twice n d in
    let half : 2 * (n * 2 ^ d) / 2 ≡ n * 2 ^ d = omega arith in
    rw (a, e) (zeros_even (d + k) (2 * (n * 2 ^ d)) (omega arith) ∙ rw half (ap suc (zeros_up d k n) ∙ omega arith))

-- looked for in more places than there are
zeros_more : (k j n : ℕ) → 0 < n → n < 2 ^ k → count_trailing_zeros (k + j) n ≡ count_trailing_zeros k n
zeros_more zero j n p h = absurd (omega (arith, pow-zero 2))
zeros_more (suc k) j n p h =
    let a : suc k + j ≡ suc (k + j) = omega arith in
    rw a
    (odd_or n
    (λ o. zeros_odd (k + j) n o ∙ sym (zeros_odd k n o))
    (λ o. zeros_even (k + j) n o ∙ ap suc (zeros_more k j (n / 2) (omega arith) (omega (arith, pow-succ' 2 k))) ∙ sym (zeros_even k n o)))

-- and what is above it
lowest_first : (k n : ℕ) → 0 < n → n < 2 ^ k → let z = count_trailing_zeros k n in n ≡ 2 ^ z + n / 2 ^ (z + 1) * 2 ^ (z + 1)
lowest_first zero n p h = absurd (omega (arith, pow-zero 2))
lowest_first (suc k) n p h =
    odd_or n
    (λ o. rw (zeros_odd k n o) (rw (pow_one, pow-zero 2) (omega arith)))
    (λ o.
    let z : ℕ = count_trailing_zeros k (n / 2) in
    let q : ℕ = n / 2 / 2 ^ (z + 1) in
    let up : suc z + 1 ≡ suc (z + 1) = omega arith in
    let over : n / 2 ^ suc (z + 1) ≡ q = ap (λ (x : ℕ). n / x) (pow-succ' 2 (z + 1)) ∙ sym (div-div-eq-div-mul n 2 (2 ^ (z + 1))) in
    let ih = lowest_first k (n / 2) (omega arith) (omega (arith, pow-succ' 2 k)) in
    rw (zeros_even k n o, up, over, twice q (z + 1), pow-succ' 2 z) (omega (arith, ih, o)))
  where
    pow_one : 2 ^ (0 + 1) ≡ 2
    pow_one = refl

pub lowest_inside : (k n : ℕ) → 0 < n → n < 2 ^ k → count_trailing_zeros k n < k
lowest_inside zero n p h = absurd (omega (arith, pow-zero 2))
lowest_inside (suc k) n p h =
    odd_or n
    (λ o. rw (zeros_odd k n o) (omega arith))
    (λ o. rw (zeros_even k n o) (omega (arith, lowest_inside k (n / 2) (omega arith) (omega (arith, pow-succ' 2 k)))))

-- moved up by d places, of the w that there are
module _ (w d n : ℕ) (p : 0 < n) (h : n < 2 ^ (w - d)) (l : d ≤ w) where
  same_zeros : count_trailing_zeros w n ≡ count_trailing_zeros (w - d) n
  same_zeros =
      let b : (w - d) + d ≡ w = omega arith in
      ap (λ (k : ℕ). count_trailing_zeros k n) (sym b) ∙ zeros_more (w - d) d n p h

  pub lowest_up : count_trailing_zeros w (n * 2 ^ d) ≡ d + count_trailing_zeros w n
  lowest_up =
      let a : d + (w - d) ≡ w = omega arith in
      ap (λ (k : ℕ). count_trailing_zeros k (n * 2 ^ d)) (sym a) ∙ zeros_up d (w - d) n ∙ ap (λ (z : ℕ). d + z) (sym same_zeros)

  pub lowest_away : let z = count_trailing_zeros w n in n * 2 ^ d - 2 ^ (d + z) ≡ n / 2 ^ (z + 1) * 2 ^ (d + (z + 1))
  lowest_away =
      let z : ℕ = count_trailing_zeros w n in
      let q : ℕ = n / 2 ^ (z + 1) in
      let first : n ≡ 2 ^ z + q * 2 ^ (z + 1) = rw (← same_zeros) at (lowest_first (w - d) n p h) in
      let whole : n * 2 ^ d ≡ 2 ^ z * 2 ^ d + q * 2 ^ (z + 1) * 2 ^ d = ap (λ (x : ℕ). x * 2 ^ d) first ∙ add-mul (2 ^ z) (q * 2 ^ (z + 1)) (2 ^ d) in
      let low : 2 ^ (d + z) ≡ 2 ^ z * 2 ^ d = pow-add 2 d z ∙ mul_comm (2 ^ d) (2 ^ z) in
      let high : q * 2 ^ (d + (z + 1)) ≡ q * 2 ^ (z + 1) * 2 ^ d =
      ap (λ (x : ℕ). q * x) (pow-add 2 d (z + 1) ∙ mul_comm (2 ^ d) (2 ^ (z + 1))) ∙ sym (mul_assoc q (2 ^ (z + 1)) (2 ^ d)) in
      omega (arith, whole, low, high)
