-- Numbers in the bits of bytes, low bit first: bytes as one number low byte first hold them as they stand. Assumes nothing.
use Rattle.format.specs.Kit.{◌≡◌, refl, ap, ◌∙◌, List, ℕ, zero, suc, ◌+◌, ◌-◌, ◌*◌, ◌/◌, ◌%◌, ◌^◌, ◌≤◌, ◌<◌, arith, length, get_or, take}
use Rattle.format.specs.Kit.{ap₂, sym, drop, le_refl, take_all, shr-shr, high, low, shl_lt, lt_of_lt_of_le, pow_mono, mod-eq_of_lt, bit_or}
use Rattle.format.specs.Bytes.{low_at, from_low, from_digits}
use Rattle.format.specs.BitsLow.{bit_low, bit_low_at, gather_low}
use Rattle.laws.proofs.BitsLow.{low_add, low_small, low_part, low_lt, low_whole}
use Rattle.packing.proofs.Swap.{front}
use Rattle.packing.proofs.Touched.{or_ends}

byte_low : (s : List ℕ) (b : ℕ) → get_or s b 0 < 256 → gather_low (bit_low_at s) (b * 8) 8 ≡ get_or s b 0
unfolding bit_low_at bit_low
byte_low s b h = low_whole 8 s b h

pub bits_lt : (s : List ℕ) (j : ℕ) → bit_low_at s j < 2
unfolding bit_low_at bit_low
bits_lt s j = low_lt 8 s j

-- bytes low first are the number of their bits
pub bytes_low : (n : ℕ) (s : List ℕ) (b : ℕ) → ((k : ℕ) → get_or s k 0 < 256) → b + n ≤ length s → low_at n s b ≡ gather_low (bit_low_at s) (b * 8) (8 * n)
unfolding low_at from_digits gather_low
bytes_low zero s b fits h = refl
bytes_low (suc n) s b fits h =
    let t : 1 + n ≡ suc n = omega arith in
    let l : low_at (suc n) s b ≡ get_or s b 0 + 256 * low_at n s (b + 1) = rw t at (front n s b (omega arith)) in
    let w : 8 * suc n ≡ 8 + 8 * n = omega arith in
    let c : (b + 1) * 8 ≡ b * 8 + 8 = omega arith in
    let ih : low_at n s (b + 1) ≡ gather_low (bit_low_at s) (b * 8 + 8) (8 * n) =
    bytes_low n s (b + 1) fits (omega arith) ∙ ap (λ (j : ℕ). gather_low (bit_low_at s) j (8 * n)) c in
    let e : gather_low (bit_low_at s) (b * 8) (8 + 8 * n) ≡ gather_low (bit_low_at s) (b * 8 + 8) (8 * n) * 2 ^ 8 + gather_low (bit_low_at s) (b * 8) 8 =
    low_add (bit_low_at s) (b * 8) 8 (8 * n) in
    rw w (omega (arith, l, ih, e, byte_low s b (fits b)))

-- w of them, after the lowest skip
pub part_low : (s : List ℕ) (b n skip w x : ℕ) → ((k : ℕ) → get_or s k 0 < 256) → b + n ≤ length s → skip + w ≤ 8 * n → x ≡ low_at n s b
    → x / 2 ^ skip % 2 ^ w ≡ gather_low (bit_low_at s) (b * 8 + skip) w
part_low s b n skip w x fits h l e =
    ap (λ (y : ℕ). y / 2 ^ skip % 2 ^ w) (e ∙ bytes_low n s b fits h)
    ∙ low_part (bit_low_at s) (bits_lt s) (b * 8) skip w (8 * n - skip - w) (8 * n) (omega arith)

-- what is left of a long after its lowest k bits: n of them, after the next a
pub window_low : (s : List ℕ) (b k a n x : ℕ) → ((k : ℕ) → get_or s k 0 < 256) → b + 8 ≤ length s → k < 8 → a + n ≤ 57 → x ≡ low_at 8 s b
    → x / 2 ^ k / 2 ^ a % 2 ^ n ≡ gather_low (bit_low_at s) (b * 8 + k + a) n
window_low s b k a n x fits h hk l e =
    let u : b * 8 + (k + a) ≡ b * 8 + k + a = omega arith in
    ap (λ (y : ℕ). y % 2 ^ n) (shr-shr x k a)
    ∙ part_low s b 8 (k + a) n x fits h (omega arith) e
    ∙ ap (λ (j : ℕ). gather_low (bit_low_at s) j n) u

-- bytes by their first k and their last k, which are all of them: where both have a bit, it is the same
pub by_ends : (s : List ℕ) (k m n x y : ℕ) → ((k : ℕ) → get_or s k 0 < 256) → length s ≡ n → k + m ≡ n → m ≤ k → n ≤ 8 → x ≡ low_at k s 0 → y ≡ low_at k s m
    → bit_or (y * 2 ^ (8 * m) % 2 ^ 64) x ≡ low_at n s 0
by_ends s k m n x y fits len e l few ex ey =
    let f : ℕ → ℕ = bit_low_at s in
    let all : ℕ = gather_low f 0 (8 * n) in
    let up : 8 * n ≡ 8 * m + 8 * k = omega arith in
    let down : 8 * n ≡ 8 * k + 8 * m = omega arith in
    let place : m * 8 ≡ 0 + 8 * m = omega arith in
    let back : y ≡ gather_low f (0 + 8 * m) (8 * k) = ey ∙ bytes_low k s m fits (omega arith) ∙ ap (λ (j : ℕ). gather_low f j (8 * k)) place in
    let top : all / 2 ^ (8 * m) ≡ y =
    ap (λ (j : ℕ). gather_low f 0 j / 2 ^ (8 * m)) up ∙ ap (λ (z : ℕ). z / 2 ^ (8 * m)) (low_add f 0 (8 * m) (8 * k))
    ∙ high (gather_low f (0 + 8 * m) (8 * k)) (8 * m) (low_small f (bits_lt s) 0 (8 * m)) ∙ sym back in
    let end : all % 2 ^ (8 * k) ≡ x =
    ap (λ (j : ℕ). gather_low f 0 j % 2 ^ (8 * k)) down ∙ ap (λ (z : ℕ). z % 2 ^ (8 * k)) (low_add f 0 (8 * k) (8 * m))
    ∙ low (gather_low f (0 + 8 * k) (8 * m)) (8 * k) (low_small f (bits_lt s) 0 (8 * k)) ∙ sym (ex ∙ bytes_low k s 0 fits (omega arith)) in
    let small : y < 2 ^ (8 * k) = rw back (low_small f (bits_lt s) (0 + 8 * m) (8 * k)) in
    let fit : y * 2 ^ (8 * m) < 2 ^ 64 = lt_of_lt_of_le (shl_lt (8 * k) (8 * m) small) (pow_mono {j = 64} (omega arith)) in
    ap₂ bit_or (mod-eq_of_lt fit ∙ ap (λ (z : ℕ). z * 2 ^ (8 * m)) (sym top)) (sym end)
    ∙ or_ends all (8 * m) (8 * k) (omega arith)
    ∙ sym (bytes_low n s 0 fits (omega arith))

-- a part of a string as a number
pub part_as_number : (s : List ℕ) (b n : ℕ) → low_at (length (take n (drop b s))) (take n (drop b s)) 0 ≡ low_at n s b
unfolding low_at
part_as_number s b n = ap from_low (take_all (length (take n (drop b s))) (take n (drop b s)) (le_refl (length (take n (drop b s)))))
