-- Numbers written one after the other, low bit first: one more number, and the end. Assumes nothing.
use Rattle.format.specs.Kit.{◌≡◌, sym, ap, ap₂, ◌∙◌, List, ℕ, zero, suc, ◌+◌, ◌-◌, ◌*◌, ◌/◌, ◌%◌, ◌^◌, ◌≤◌, ◌<◌, zero-mul, zero-add, add-zero, div-one}
use Rattle.format.specs.Kit.{mod-eq_of_lt, mod-lt, arith, get_or, bit_or, or_shifted, digits_lt, high, low, field, mod-mod-pow, mod-pow-add, pow-add, pow_pos}
use Rattle.format.specs.Kit.{mul-suc, shl-shr, shr-shr}
use Rattle.format.specs.BitsLow.{gather_low}
use Rattle.laws.proofs.BitsLow.{low_add, low_small, low_zero, low_part}
use Rattle.laws.proofs.Cases.{below_or}
use Rattle.packing.specs.declared.Pending.{Pending}
use Rattle.packing.specs.Stream.{Stored, Held}
use Rattle.packing.specs.Turned.{turned}

-- ---- bytes in the other order

turned_lt : (n x : ℕ) → turned n x < 2 ^ (8 * n)
unfolding turned
turned_lt zero x = omega arith
turned_lt (suc n) x =
    let e : 8 * suc n ≡ 8 + 8 * n = omega arith in
    rw (e, pow-add 2 8 (8 * n)) (digits_lt (mod-lt x (pow_pos 8)) (turned_lt n (x / 256)))

-- byte j of n, and m come after it
byte_in : (n x j m : ℕ) → j + suc m ≡ n → turned n x / 2 ^ (8 * m) % 2 ^ 8 ≡ x / 2 ^ (8 * j) % 2 ^ 8
unfolding turned
byte_in zero x j m e = absurd (omega arith)
byte_in (suc n) x zero m e =
    let q : m ≡ n = omega arith in
    ap (λ (k : ℕ). turned (suc n) x / 2 ^ (8 * k) % 2 ^ 8) q
    ∙ ap (λ (y : ℕ). y % 2 ^ 8) (high (x % 256) (8 * n) (turned_lt n (x / 256)))
    ∙ rw (div-one x) (omega arith)
byte_in (suc n) x (suc j) m e =
    let t : ℕ = turned n (x / 256) in
    let y : ℕ = x % 256 * 2 ^ (8 * n) + t in
    let s : 8 * n ≡ 8 * j + (8 + 8 * m) = omega arith in
    let cut : y % 2 ^ (8 * n) % 2 ^ (8 + 8 * m) ≡ y % 2 ^ (8 + 8 * m) =
    ap (λ (k : ℕ). y % 2 ^ k % 2 ^ (8 + 8 * m)) s ∙ mod-mod-pow y (8 * j) (8 + 8 * m) in
    let u : 8 * suc j ≡ 8 + 8 * j = omega arith in
    sym (field y 8 (8 * m))
    ∙ ap (λ (z : ℕ). z / 2 ^ (8 * m)) (sym cut)
    ∙ field (y % 2 ^ (8 * n)) 8 (8 * m)
    ∙ ap (λ (z : ℕ). z / 2 ^ (8 * m) % 2 ^ 8) (low (x % 256) (8 * n) (turned_lt n (x / 256)))
    ∙ byte_in n (x / 256) j m (omega arith)
    ∙ ap (λ (z : ℕ). z % 2 ^ 8) (shr-shr x 8 (8 * j) ∙ ap (λ (k : ℕ). x / 2 ^ k) (sym u))

byte_turned : (x j : ℕ) → j < 8 → turned 8 x / 2 ^ (56 - j * 8) % 2 ^ 8 ≡ x / 2 ^ (j * 8) % 2 ^ 8
byte_turned x j h =
    let a : 56 - j * 8 ≡ 8 * (7 - j) = omega arith in
    let b : j * 8 ≡ 8 * j = omega arith in
    ap (λ (k : ℕ). turned 8 x / 2 ^ k % 2 ^ 8) a ∙ byte_in 8 x j (7 - j) (omega arith) ∙ ap (λ (k : ℕ). x / 2 ^ k % 2 ^ 8) (sym b)

-- ---- shifts

-- what stays of x above k bits, in 64
shifted : (x k : ℕ) → k < 64 → x * 2 ^ k % 2 ^ 64 ≡ x % 2 ^ (64 - k) * 2 ^ k
shifted x k h =
    let e : 64 ≡ 64 - k + k = omega arith in
    let z : x * 2 ^ k % 2 ^ k ≡ 0 = ap (λ (y : ℕ). y % 2 ^ k) (sym (add-zero (x * 2 ^ k))) ∙ low x k (pow_pos k) in
    ap (λ (j : ℕ). x * 2 ^ k % 2 ^ j) e ∙ mod-pow-add (x * 2 ^ k) (64 - k) k
    ∙ ap₂ (λ (a b : ℕ). a % 2 ^ (64 - k) * 2 ^ k + b) (shl-shr x k) z ∙ add-zero _

pub topped_is : (x k a : ℕ) → k < 64 → a < 2 ^ k → bit_or (x * 2 ^ k % 2 ^ 64) a ≡ x % 2 ^ (64 - k) * 2 ^ k + a
topped_is x k a h l = ap (λ (y : ℕ). bit_or y a) (shifted x k h) ∙ or_shifted (x % 2 ^ (64 - k)) k a l

pub left_is : (x k : ℕ) → k < 64 → x / 2 ^ 1 / 2 ^ (63 - k) ≡ x / 2 ^ (64 - k)
left_is x k h =
    let e : 1 + (63 - k) ≡ 64 - k = omega arith in
    shr-shr x 1 (63 - k) ∙ ap (λ (j : ℕ). x / 2 ^ j) e

-- ---- one more number

-- w bits more above those that wait
pub more_low : {f : ℕ → ℕ} {n : ℕ} {d : List ℕ} {p : Pending} → Held gather_low f n d p → (w x : ℕ) → gather_low f n w ≡ x
    → x * 2 ^ p.have + p.acc ≡ gather_low f (p.at * 8) (p.have + w)
more_low {f} {n} {d} {p} h w x g =
    ap₂ (λ (a b : ℕ). a * 2 ^ p.have + b) (sym g ∙ ap (λ (j : ℕ). gather_low f j w) (sym h.bits)) h.waits
    ∙ sym (low_add f (p.at * 8) p.have w)

-- where they fit in a word, none is lost
pub all_low : (x k w : ℕ) → k + w ≤ 64 → x < 2 ^ w → x % 2 ^ (64 - k) ≡ x
all_low x k w h l =
    let e : 64 - k ≡ w + (64 - k - w) = omega arith in
    let m : x < 2 ^ (64 - k) = rw (e, pow-add 2 w (64 - k - w)) (grow (2 ^ (64 - k - w)) (pow_pos (64 - k - w))) in
    mod-eq_of_lt m
  where
    grow : (q : ℕ) → 0 < q → x < 2 ^ w * q
    grow zero z = absurd (omega arith)
    grow (suc q) z = omega (arith, mul-suc (2 ^ w) q)

-- a full word
pub word_low : {f : ℕ → ℕ} {n : ℕ} {d : List ℕ} {p : Pending} → Held gather_low f n d p → (m x : ℕ) → gather_low f n m ≡ x → p.have + m ≡ 64
    → x * 2 ^ p.have + p.acc ≡ gather_low f (p.at * 8) 64
word_low {f} {n} {d} {p} h m x g e = more_low h m x g ∙ ap (gather_low f (p.at * 8)) e

module _ (f : ℕ → ℕ) (bit : (k : ℕ) → f k < 2) where
  -- the lowest a and the highest c bits of a number
  pub lowest : (n w x a c : ℕ) → a + c ≡ w → gather_low f n w ≡ x → x % 2 ^ a ≡ gather_low f n a
  lowest n w x a c e g = rw (← g, ← e, low_add f n a c) (low (gather_low f (n + a) c) a (low_small f bit n a))

  pub highest : (n w x a c : ℕ) → a + c ≡ w → gather_low f n w ≡ x → x / 2 ^ a ≡ gather_low f (n + a) c
  highest n w x a c e g = rw (← g, ← e, low_add f n a c) (high (gather_low f (n + a) c) a (low_small f bit n a))

  -- bytes of a word, after bytes of the bits before it
  pub stored_low : (at n v u : ℕ) (d e : List ℕ) → n ≤ 8 → u ≡ turned 8 v → v ≡ gather_low f (at * 8) 64 → Stored at n u d e
      → ((k : ℕ) → k < at → get_or d k 0 ≡ gather_low f (k * 8) 8) → (k : ℕ) → k < at + n → get_or e k 0 ≡ gather_low f (k * 8) 8
  stored_low at n v u d e small turn is s old k h =
      below_or k at
      (λ q. s.before k q ∙ old k q)
      (λ l.
      let j : ℕ = k - at in
      let a : at + j ≡ k = omega arith in
      let b : at * 8 + j * 8 ≡ k * 8 = omega arith in
      ap (λ (i : ℕ). get_or e i 0) (sym a) ∙ s.bytes j (omega arith)
      ∙ ap (λ (y : ℕ). y / 2 ^ (56 - j * 8) % 2 ^ 8) turn ∙ byte_turned v j (omega arith)
      ∙ ap (λ (y : ℕ). y / 2 ^ (j * 8) % 2 ^ 8) is
      ∙ low_part f bit (at * 8) (j * 8) 8 (56 - j * 8) 64 (omega arith)
      ∙ ap (λ (i : ℕ). gather_low f i 8) b)

-- with zeros above them
pub last_low : {f : ℕ → ℕ} {n : ℕ} {d : List ℕ} {p : Pending} → Held gather_low f n d p → ((k : ℕ) → n ≤ k → f k ≡ 0)
    → p.acc ≡ gather_low f (p.at * 8) 64
last_low {f} {n} {d} {p} h past =
    let few : p.have < 64 = h.few in
    sym (ap (λ (y : ℕ). y + p.acc) (zero-mul (2 ^ p.have)) ∙ zero-add p.acc)
    ∙ word_low h (64 - p.have) 0 (low_zero f n (64 - p.have) (λ k _. past (n + k) (omega arith))) (omega arith)
