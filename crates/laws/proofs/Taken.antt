-- The bytes that a fetch takes (document 02, [5]): exactly those that its bits touch, each once, at most nine, for every width and every index; and
-- the number is in them alone, high bit first and low bit first. Assumes nothing.
use Rattle.format.specs.Kit.{◌≡◌, refl, sym, ap, ◌∙◌, List, ℕ, zero, suc, ◌+◌, ◌-◌, ◌*◌, ◌/◌, ◌%◌, ◌≤◌, ◌<◌, cond, arith, take, drop, ne_eqb}
use Rattle.format.specs.Kit.{◌^◌, get_or, get_or-take, get_or-drop}
use Rattle.format.specs.Bits.{bit_at, gather, bit_bytes, fetched, fetched_bytes}
use Rattle.format.specs.BitsLow.{bit_low_at, gather_low, fetched_low}
use Rattle.laws.proofs.Bits.{gather_same}
use Rattle.laws.proofs.BitsLow.{low_same}

-- ---- how many

-- none at width 0
pub none_taken : (i : ℕ) → fetched_bytes 0 i ≡ 0
unfolding fetched_bytes
none_taken i = refl

pub taken_is : (w i : ℕ) → 0 < w → fetched_bytes w i ≡ (i * w + w - 1) / 8 - i * w / 8 + 1
unfolding fetched_bytes
taken_is w i h = ap (λ b. cond b 0 ((i * w + w - 1) / 8 - i * w / 8 + 1)) (ne_eqb w 0 (λ e. omega arith))

-- those of its bits, and of the bits that come before them in the first
pub taken_bits : (w i : ℕ) → 0 < w → fetched_bytes w i ≡ bit_bytes (i * w % 8 + w)
taken_bits w i h = taken_is w i h ∙ omega arith

pub at_most_nine : (w i : ℕ) → w ≤ 64 → fetched_bytes w i ≤ 9
at_most_nine zero i l = omega (arith, none_taken i)
at_most_nine (suc v) i l = omega (arith, taken_is (suc v) i (omega arith))

-- ---- which: the run of that many bytes from byte iw div 8 on

-- a byte that holds a bit of number i is one of them
pub bit_taken : (w i k : ℕ) → k < w → (i * w / 8 ≤ (i * w + k) / 8) × ((i * w + k) / 8 < i * w / 8 + fetched_bytes w i)
bit_taken w i k h = (omega arith, omega (arith, taken_is w i (omega arith)))

-- and each of them holds a bit of number i
pub taken_bit : (w i b : ℕ) → i * w / 8 ≤ b → b < i * w / 8 + fetched_bytes w i → (k : ℕ) × (k < w) × ((i * w + k) / 8 ≡ b)
taken_bit zero i b h l = absurd (omega (arith, none_taken i))
taken_bit (suc v) i b h l =
    let w : ℕ = suc v in
    let n = taken_is w i (omega arith) in
    (b * 8 - i * w, omega (arith, n), omega (arith, n))

-- ---- that the number is in them, in either packing

-- bit j of a byte string is one of byte j div 8, by j mod 8 (f): high bit first or low bit first
bit_in : (f : ℕ → ℕ → ℕ) (s : List ℕ) (b n j : ℕ) → j < 8 * n
    → f (get_or (take n (drop b s)) (j / 8) 0) (j % 8) ≡ f (get_or s ((b * 8 + j) / 8) 0) ((b * 8 + j) % 8)
bit_in f s b n j h =
    let q : (b * 8 + j) / 8 ≡ b + j / 8 = omega arith in
    let r : (b * 8 + j) % 8 ≡ j % 8 = omega arith in
    rw (get_or-take n (drop b s) (j / 8) 0 (omega arith), get_or-drop b s (j / 8) 0, q, r)

module _ (s : List ℕ) (b n j w : ℕ) (h : j + w ≤ 8 * n) where
  pub gather_in_part : gather (bit_at (take n (drop b s))) j w ≡ gather (bit_at s) (b * 8 + j) w
  unfolding bit_at
  gather_in_part =
      gather_same (bit_at (take n (drop b s))) (bit_at s) j (b * 8 + j) w
      (λ k l. bit_in (λ (x i : ℕ). x / 2 ^ (7 - i) % 2) s b n (j + k) (omega arith) ∙ ap (bit_at s) (omega arith))

  low_in_part : gather_low (bit_low_at (take n (drop b s))) j w ≡ gather_low (bit_low_at s) (b * 8 + j) w
  unfolding bit_low_at
  low_in_part =
      low_same (bit_low_at (take n (drop b s))) (bit_low_at s) j (b * 8 + j) w
      (λ k l. bit_in (λ (x i : ℕ). x / 2 ^ i % 2) s b n (j + k) (omega arith) ∙ ap (bit_low_at s) (omega arith))

-- its first bit in the first of its bytes, and room in them for the rest
own_place : (w i : ℕ) → (i * w / 8 * 8 + i * w % 8 ≡ i * w) × (0 < w → i * w % 8 + w ≤ 8 * fetched_bytes w i)
own_place w i = (omega arith, λ h. omega (arith, taken_bits w i h))

pub own_bytes : (s : List ℕ) (w i : ℕ)
    → fetched s w i ≡ gather (bit_at (take (fetched_bytes w i) (drop (i * w / 8) s))) (i * w % 8) w
unfolding fetched gather
own_bytes s zero i = refl
own_bytes s (suc v) i =
    let p = own_place (suc v) i in
    ap (λ (j : ℕ). gather (bit_at s) j (suc v)) (sym p.0)
    ∙ sym (gather_in_part s (i * suc v / 8) (fetched_bytes (suc v) i) (i * suc v % 8) (suc v) (p.1 (omega arith)))

pub own_bytes_low : (s : List ℕ) (w i : ℕ)
    → fetched_low s w i ≡ gather_low (bit_low_at (take (fetched_bytes w i) (drop (i * w / 8) s))) (i * w % 8) w
unfolding fetched_low gather_low
own_bytes_low s zero i = refl
own_bytes_low s (suc v) i =
    let p = own_place (suc v) i in
    ap (λ (j : ℕ). gather_low (bit_low_at s) j (suc v)) (sym p.0)
    ∙ sym (low_in_part s (i * suc v / 8) (fetched_bytes (suc v) i) (i * suc v % 8) (suc v) (p.1 (omega arith)))
