-- Numbers in the bits of a string: one byte, a window of eight, and the place of the next number. Assumes nothing.
use Rattle.format.specs.Kit.{◌≡◌, sym, ap, ◌∙◌, List, ℕ, ◌+◌, ◌-◌, ◌*◌, ◌/◌, ◌%◌, ◌^◌, ◌≤◌, ◌<◌, mul-le-mul_right, add-mul, one-mul, arith, get_or}
use Rattle.format.specs.Kit.{shr-shr, shl-shr, field, mod-mod-pow}
use Rattle.format.specs.Bits.{bit_of, bit_at, gather}
use Rattle.laws.proofs.Bits.{gather_whole, gather_part, bit_at_lt}

-- one byte
pub byte_gather : (s : List ℕ) (b : ℕ) → get_or s b 0 < 256 → get_or s b 0 ≡ gather (bit_at s) (b * 8) 8
unfolding bit_at bit_of
byte_gather s b h = sym (gather_whole 8 s b h)

-- the bits of x after its first a, shifted to the front and back
pub middle_is : (x a w : ℕ) → a + w ≤ 64 → x * 2 ^ a % 2 ^ 64 / 2 ^ (64 - w) ≡ x / 2 ^ (64 - a - w) % 2 ^ w
middle_is x a w h =
    let k : ℕ = 64 - w in
    let m : ℕ = 64 - a - w in
    let e : 64 ≡ w + k = omega arith in
    let t : k ≡ a + m = omega arith in
    ap (λ (j : ℕ). x * 2 ^ a % 2 ^ j / 2 ^ k) e ∙ field (x * 2 ^ a) w k
    ∙ ap (λ (y : ℕ). y % 2 ^ w) (ap (λ (j : ℕ). x * 2 ^ a / 2 ^ j) t ∙ sym (shr-shr (x * 2 ^ a) a m) ∙ ap (λ (y : ℕ). y / 2 ^ m) (shl-shr x a))

-- what is left of 64 bits after the first k are shifted out: n of them, after the next a
pub window_is : (s : List ℕ) (b k a n x : ℕ) → k < 8 → a + n ≤ 57 → x ≡ gather (bit_at s) (b * 8) 64
    → x * 2 ^ k % 2 ^ 64 / 2 ^ (64 - a - n) % 2 ^ n ≡ gather (bit_at s) (b * 8 + k + a) n
window_is s b k a n x hk h e =
    let m : ℕ = 64 - k - (a + n) in
    let t : 64 - a - n ≡ 64 - (a + n) = omega arith in
    let q : x * 2 ^ k % 2 ^ 64 / 2 ^ (64 - (a + n)) ≡ x / 2 ^ m % 2 ^ (a + n) = middle_is x k (a + n) (omega arith) in
    let r : x / 2 ^ m % 2 ^ (a + n) % 2 ^ n ≡ x / 2 ^ m % 2 ^ n = mod-mod-pow (x / 2 ^ m) a n in
    let u : b * 8 + (k + a) ≡ b * 8 + k + a = omega arith in
    ap (λ (j : ℕ). x * 2 ^ k % 2 ^ 64 / 2 ^ j % 2 ^ n) t ∙ ap (λ (y : ℕ). y % 2 ^ n) q ∙ r
    ∙ ap (λ (y : ℕ). y / 2 ^ m % 2 ^ n) e
    ∙ gather_part (bit_at s) (bit_at_lt s) (b * 8) (k + a) n m 64 (omega arith)
    ∙ ap (λ (j : ℕ). gather (bit_at s) j n) u

-- the window at number i is within the bytes while 64 numbers are left
pub window_inside : (i n w at skip b : ℕ) → 0 < w → i + 64 ≤ n → n * w ≤ 8 * b → at * 8 + skip ≡ i * w → at + 8 ≤ b
window_inside i n w at skip b p h l e =
    let m : (i + 64) * w ≤ n * w = mul-le-mul_right w h in
    let q : (i + 64) * w ≡ i * w + 64 * w = add-mul i 64 w in
    omega arith

-- the place k numbers on, as a byte and the bits before it there
pub place_on : (k i w at skip : ℕ) → at * 8 + skip ≡ i * w → (at + (skip + k * w) / 8) * 8 + (skip + k * w) % 8 ≡ (i + k) * w
place_on k i w at skip e = omega (arith, add-mul i k w)

pub place_next : (i w at skip : ℕ) → at * 8 + skip ≡ i * w → (at + (skip + w) / 8) * 8 + (skip + w) % 8 ≡ (i + 1) * w
place_next i w at skip e = rw one-mul at (place_on 1 i w at skip e)
