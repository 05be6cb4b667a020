-- The number in the bytes that its bits touch, by the first and the last of these bytes. Assumes nothing.
use Rattle.format.specs.Kit.{◌≡◌, sym, ap, ap₂, ◌∙◌, subst, ℕ, zero, suc, ◌+◌, ◌-◌, ◌*◌, ◌/◌, ◌%◌, ◌^◌, ◌≤◌, ◌<◌, arith, zero-add, add-zero, zero-mul}
use Rattle.format.specs.Kit.{mul-one, mul_assoc, add-mul, div-one, div-eq_of_lt, mod-one, mod-lt, mod-eq_of_lt, lt_of_lt_of_le, pow-add, pow_pos, pow_mono}
use Rattle.format.specs.Kit.{mod-pow-add, high, low, split, shl_lt, shl-shr, shr-shr, bit_or, or_block, or_self, or_zero_r}
use Rattle.format.specs.Bits.{gather, bit_bytes}
use Rattle.laws.proofs.Bits.{gather_add, gather_lt}

-- ---- a number by its ends

or_low : (y j : ℕ) → bit_or y (y % 2 ^ j) ≡ y
or_low y j =
    let r : ℕ = y % 2 ^ j in
    ap₂ bit_or (sym (split y j)) (sym (ap (λ (x : ℕ). x + r) (zero-mul (2 ^ j)) ∙ zero-add r))
    ∙ or_block j (y / 2 ^ j) 0 r r (mod-lt y (pow_pos j)) (mod-lt y (pow_pos j))
    ∙ ap₂ (λ (a b : ℕ). a * 2 ^ j + b) (or_zero_r (y / 2 ^ j)) (or_self r)
    ∙ split y j

-- all bits but the last u, and the last v: those that are in both are the same
pub or_ends : (n u v : ℕ) → u ≤ v → bit_or (n / 2 ^ u * 2 ^ u) (n % 2 ^ v) ≡ n
or_ends n u v l =
    let j : ℕ = v - u in
    let y : ℕ = n / 2 ^ u in
    let e : v ≡ j + u = omega arith in
    ap₂ bit_or (sym (add-zero (y * 2 ^ u))) (ap (λ (k : ℕ). n % 2 ^ k) e ∙ mod-pow-add n j u)
    ∙ or_block u y (y % 2 ^ j) 0 (n % 2 ^ u) (pow_pos u) (mod-lt n (pow_pos u))
    ∙ ap (λ (x : ℕ). x * 2 ^ u + n % 2 ^ u) (or_low y j)
    ∙ split n u

-- ---- the bits of bytes

module _ (f : ℕ → ℕ) (h : (k : ℕ) → f k < 2) where
  -- the last e of some bits dropped, and the c zeros after them
  head_of : (j v e c : ℕ) → gather f j (v + e) * 2 ^ c / 2 ^ (c + e) ≡ gather f j v
  head_of j v e c =
      sym (shr-shr (gather f j (v + e) * 2 ^ c) c e) ∙ ap (λ (x : ℕ). x / 2 ^ e) (shl-shr (gather f j (v + e)) c ∙ gather_add f j v e)
      ∙ high (gather f j v) e (gather_lt f h (j + v) e)

  -- the first skip bits shifted out of 64
  cut : (skip n d : ℕ) → n + (d + skip) ≡ 64 → gather f 0 (skip + n) * 2 ^ d * 2 ^ skip % 2 ^ 64 ≡ gather f skip n * 2 ^ (d + skip)
  cut skip n d e =
      let a : ℕ = gather f 0 skip in
      let b : ℕ = gather f skip n in
      let p : ℕ = 2 ^ (d + skip) in
      let parts : gather f 0 (skip + n) ≡ a * 2 ^ n + b = gather_add f 0 skip n ∙ ap (λ (j : ℕ). a * 2 ^ n + gather f j n) (zero-add skip) in
      let all : 2 ^ n * p ≡ 2 ^ 64 = sym (pow-add 2 n (d + skip)) ∙ ap (λ (j : ℕ). 2 ^ j) e in
      let small : b * p < 2 ^ 64 = subst (λ (j : ℕ). b * p < 2 ^ j) e (shl_lt n (d + skip) (gather_lt f h skip n)) in
      ap (λ (x : ℕ). x % 2 ^ 64)
      (mul_assoc (gather f 0 (skip + n)) (2 ^ d) (2 ^ skip) ∙ ap₂ (λ (x y : ℕ). x * y) parts (sym (pow-add 2 d skip))
      ∙ add-mul (a * 2 ^ n) b p ∙ ap (λ (x : ℕ). x + b * p) (mul_assoc a (2 ^ n) p ∙ ap (λ (x : ℕ). a * x) all))
      ∙ low a 64 small

  -- what `packing::met` makes of two ends
  abbrev Met : (x y j r : ℕ) → Type 0
  Met x y j r = (n u v : ℕ) → u ≤ v → x / 2 ^ j ≡ n / 2 ^ u * 2 ^ u → y / 2 ^ j ≡ n % 2 ^ v → r ≡ n

  -- the first end has all bits: skip, w and those left over fill the bytes, and d zeros follow up to 64
  all_of : (skip w k d j : ℕ) {x : ℕ} → skip + w ≤ 8 * k → 8 * k + d ≡ 64 → w + j ≡ 64 → x ≡ gather f 0 (8 * k) * 2 ^ d * 2 ^ skip % 2 ^ 64
      → x / 2 ^ j ≡ gather f skip w / 2 ^ 0 * 2 ^ 0
  all_of skip w k d j l ed ej ex =
      let e : ℕ = 8 * k - (skip + w) in
      let number : ℕ = gather f skip w in
      let a : 8 * k ≡ skip + (w + e) = omega arith in
      let b : j ≡ d + skip + e = omega arith in
      ap₂ (λ (y q : ℕ). y / 2 ^ q) (ex ∙ ap (λ (n : ℕ). gather f 0 n * 2 ^ d * 2 ^ skip % 2 ^ 64) a ∙ cut skip (w + e) d (omega arith)) b
      ∙ head_of skip w e (d + skip) ∙ sym (mul-one (number / 1) ∙ div-one number)

  -- each end has all bits: the other goes below them, or to the same place if there is none to skip
  in_each : (skip w k d i j : ℕ) {x y r : ℕ} → skip + w ≤ 8 * k → 8 * k + d ≡ 64 → i ≡ (64 - skip) % 64 → w + j ≡ 64
      → x ≡ gather f 0 (8 * k) * 2 ^ d * 2 ^ skip % 2 ^ 64 → y ≡ gather f 0 (8 * k) * 2 ^ d / 2 ^ i → Met x y j r → r ≡ gather f skip w
  in_each zero w k d i j l ed ei ej ex ey met =
      let e : ℕ = 8 * k - w in
      let bytes : ℕ = gather f 0 (8 * k) * 2 ^ d in
      let a : 8 * k ≡ w + e = omega arith in
      let b : i ≡ 0 = omega arith in
      let c : j ≡ d + e = omega arith in
      met (gather f 0 w) 0 w (omega arith) (all_of 0 w k d j l ed ej ex)
      (ap (λ (x : ℕ). x / 2 ^ j) (ey ∙ ap (λ (q : ℕ). bytes / 2 ^ q) b ∙ div-one bytes)
      ∙ ap₂ (λ (n q : ℕ). gather f 0 n * 2 ^ d / 2 ^ q) a c ∙ head_of 0 w e d ∙ sym (mod-eq_of_lt (gather_lt f h 0 w)))
  in_each (suc s) w k d i j l ed ei ej ex ey met =
      let bytes : ℕ = gather f 0 (8 * k) * 2 ^ d in
      let small : bytes < 2 ^ (8 * k + d) = shl_lt (8 * k) d (gather_lt f h 0 (8 * k)) in
      met (gather f (suc s) w) 0 0 (omega arith) (all_of (suc s) w k d j l ed ej ex)
      (ap (λ (x : ℕ). x / 2 ^ j) ey ∙ shr-shr bytes i j ∙ div-eq_of_lt (lt_of_lt_of_le small (pow_mono {j = i + j} (omega arith)))
      ∙ sym (mod-one (gather f (suc s) w)))

  -- the first end has all but the last u bits, the other the last v, after the first q
  in_both : (skip w d e j n u v q : ℕ) {x y r : ℕ} → n + (d + skip) ≡ 64 → w + j ≡ 64 → n + u ≡ w → q + v ≡ w → u ≤ v → q + j ≡ d + e
      → x ≡ gather f 0 (skip + n) * 2 ^ d * 2 ^ skip % 2 ^ 64 → y ≡ gather f (skip + q) (v + e) * 2 ^ d / 2 ^ q
      → Met x y j r → r ≡ gather f skip w
  in_both skip w d e j n u v q s t en eq l o ex ey met =
      let front : ℕ = gather f skip n in
      let bytes : ℕ = gather f (skip + q) (v + e) * 2 ^ d in
      let ej : d + skip ≡ u + j = omega arith in
      let first = ex ∙ cut skip n d s ∙ ap (λ (b : ℕ). front * 2 ^ b) ej ∙ ap (λ (b : ℕ). front * b) (pow-add 2 u j) ∙ sym (mul_assoc front (2 ^ u) (2 ^ j)) in
      let last = ap (λ (a : ℕ). a / 2 ^ j) ey ∙ shr-shr bytes q j ∙ ap (λ (b : ℕ). bytes / 2 ^ b) o ∙ head_of (skip + q) v e d in
      let top = ap (λ (a : ℕ). gather f skip a / 2 ^ u) (sym en) ∙ ap (λ (a : ℕ). a / 2 ^ u) (gather_add f skip n u)
      ∙ high front u (gather_lt f h (skip + n) u) in
      let end = ap (λ (a : ℕ). gather f skip a % 2 ^ v) (sym eq) ∙ ap (λ (a : ℕ). a % 2 ^ v) (gather_add f skip q v)
      ∙ low (gather f skip q) v (gather_lt f h (skip + q) v) in
      met (gather f skip w) u v l (ap (λ (a : ℕ). a / 2 ^ j) first ∙ shl-shr (front * 2 ^ u) j ∙ ap (λ (a : ℕ). a * 2 ^ u) (sym top)) (last ∙ sym end)

  -- of k + m bytes the first k, without the first skip bits, and the last k, behind them
  pub by_ends : (skip w k m d i j : ℕ) {x y r : ℕ} → skip < 8 → 0 < w → 1 ≤ k → m ≤ k → k + m ≡ bit_bytes (skip + w)
      → 8 * k + d ≡ 64 → i ≡ (64 + 8 * m - skip) % 64 → w + j ≡ 64
      → x ≡ gather f 0 (8 * k) * 2 ^ d * 2 ^ skip % 2 ^ 64 → y ≡ gather f (m * 8) (8 * k) * 2 ^ d / 2 ^ i
      → Met x y j r → r ≡ gather f skip w
  by_ends skip w k zero d i j s p o l t ed ei ej ex ey met = in_each skip w k d i j (omega arith) ed ei ej ex ey met
  by_ends skip w k (suc m) d i j s p o l t ed ei ej ex ey met =
      let n : ℕ = 8 * k - skip in
      let q : ℕ = 8 * suc m - skip in
      let v : ℕ = w - q in
      let e : ℕ = 8 * k - v in
      let a : 8 * k ≡ skip + n = omega arith in
      let b : 8 * k ≡ v + e = omega arith in
      let c : suc m * 8 ≡ skip + q = omega arith in
      let g : i ≡ q = omega arith in
      in_both skip w d e j n (w - n) v q (omega arith) ej (omega arith) (omega arith) (omega arith) (omega arith)
      (ex ∙ ap (λ (n : ℕ). gather f 0 n * 2 ^ d * 2 ^ skip % 2 ^ 64) a)
      (ey ∙ ap₂ (λ (o n : ℕ). gather f o n * 2 ^ d / 2 ^ i) c b ∙ ap (λ (i : ℕ). gather f (skip + q) (v + e) * 2 ^ d / 2 ^ i) g) met
