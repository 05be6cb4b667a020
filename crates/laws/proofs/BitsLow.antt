-- Bits, low bit first: laws of `gather_low` and `bit_low`, once for every width. Assumes nothing.
use Rattle.format.specs.Kit.{◌≡◌, refl, sym, ap, ◌∙◌, List, ℕ, zero, suc, ◌+◌, ◌-◌, ◌*◌, ◌/◌, ◌%◌, ◌^◌, ◌≤◌, ◌<◌, mod-one, mod-eq_of_lt, mod-lt}
use Rattle.format.specs.Kit.{div-one, div-add-mod', div-lt_iff_lt-mul, le-div_iff_mul-le, zero-div, zero-mod, zero-lt-suc, zero-add, add-zero}
use Rattle.format.specs.Kit.{add-suc, suc-add, mul-one, mul_assoc, pow-suc, pow-zero, add-one, arith, length, get_or, List·getD-eq-default}
use Rattle.format.specs.Kit.{mod-pow-add, shr-shr, high, low, digits_div, digits_mod}
use Rattle.format.specs.Bits.{tabulate}
use Rattle.format.specs.BitsLow.{bit_low, gather_low}
use Rattle.laws.proofs.Orders.{Order, Orderly, get_d_tabulate}

-- same bits, same number
pub low_same : (f g : ℕ → ℕ) (j l n : ℕ) → ((k : ℕ) → k < n → f (j + k) ≡ g (l + k)) → gather_low f j n ≡ gather_low g l n
unfolding gather_low
low_same f g j l zero h = refl
low_same f g j l (suc n) h =
    let a : f j ≡ g l = ap f (sym (add-zero j)) ∙ h 0 (omega arith) ∙ ap g (add-zero l) in
    let ih : gather_low f (suc j) n ≡ gather_low g (suc l) n =
    low_same f g (suc j) (suc l) n (λ k i. ap f (suc-add j k ∙ sym (add-suc j k)) ∙ h (suc k) (omega arith) ∙ ap g (add-suc l k ∙ sym (suc-add l k))) in
    rw (a, ih)

-- a whole split: the lower bits stand first
pub low_add : (f : ℕ → ℕ) (j m n : ℕ) → gather_low f j (m + n) ≡ gather_low f (j + m) n * 2 ^ m + gather_low f j m
unfolding gather_low
low_add f j zero n = rw (zero-add n, add-zero j, pow-zero, mul-one, add-zero)
low_add f j (suc m) n =
    let ih : gather_low f (suc j) (m + n) ≡ gather_low f (suc j + m) n * 2 ^ m + gather_low f (suc j) m = low_add f (suc j) m n in
    let s : suc j + m ≡ j + suc m = omega arith in
    let p : gather_low f (j + suc m) n * 2 ^ suc m ≡ gather_low f (j + suc m) n * 2 ^ m * 2 = rw pow-suc (sym (mul_assoc _ _ _)) in
    let g : gather_low f (suc j + m) n ≡ gather_low f (j + suc m) n = ap (λ (i : ℕ). gather_low f i n) s in
    let e : gather_low f (suc j) (m + n) ≡ gather_low f (j + suc m) n * 2 ^ m + gather_low f (suc j) m = rw g at ih in
    rw (suc-add, p) (omega (arith, e))

-- n bits make a number of n bits
pub low_small : (f : ℕ → ℕ) → ((k : ℕ) → f k < 2) → (j n : ℕ) → gather_low f j n < 2 ^ n
unfolding gather_low
low_small f h j zero = omega arith
low_small f h j (suc n) = rw pow-suc (omega (arith, low_small f h (suc j) n, h j))

-- zeros make 0, and nothing else does
pub low_zero : (f : ℕ → ℕ) (j n : ℕ) → ((k : ℕ) → k < n → f (j + k) ≡ 0) → gather_low f j n ≡ 0
unfolding gather_low
low_zero f j n h = low_same f (λ k. 0) j j n h ∙ zeros j n
  where
    zeros : (j n : ℕ) → gather_low (λ k. 0) j n ≡ 0
    zeros j zero = refl
    zeros j (suc n) = omega (arith, zeros (suc j) n)

pub zero_low : (f : ℕ → ℕ) (j n k : ℕ) → gather_low f j n ≡ 0 → k < n → f (j + k) ≡ 0
unfolding gather_low
zero_low f j zero k e h = absurd (omega arith)
zero_low f j (suc n) zero e h = rw (add-zero j) (omega arith)
zero_low f j (suc n) (suc k) e h = ap f (add-suc j k ∙ sym (suc-add j k)) ∙ zero_low f (suc j) n k (omega arith) (omega arith)

-- n of the bits of a number made of bits: those after its lowest a
pub low_part : (f : ℕ → ℕ) → ((k : ℕ) → f k < 2) → (j a n c t : ℕ) → a + n + c ≡ t → gather_low f j t / 2 ^ a % 2 ^ n ≡ gather_low f (j + a) n
low_part f h j a n c t e =
    let s : a + (n + c) ≡ t = omega arith in
    rw (← s, low_add f j a (n + c), high (gather_low f (j + a) (n + c)) a (low_small f h j a), low_add f (j + a) n c)
    (low (gather_low f (j + a + n) c) n (low_small f h (j + a) n))

-- one of them
pub low_bit : (f : ℕ → ℕ) → ((k : ℕ) → f k < 2) → (j n k : ℕ) → k < n → gather_low f j n / 2 ^ k % 2 ≡ f (j + k)
unfolding gather_low
low_bit f h j n k l = low_part f h j k 1 (n - k - 1) n (omega arith) ∙ add-zero (f (j + k))

-- n of the bits of one number, after its lowest o
pub low_in : (w : ℕ) (xs : List ℕ) (i o n : ℕ) → o + n ≤ w → gather_low (bit_low w xs) (i * w + o) n ≡ get_or xs i 0 / 2 ^ o % 2 ^ n
unfolding gather_low bit_low
low_in w xs i o zero h = sym (mod-one (get_or xs i 0 / 2 ^ o))
low_in w xs i o (suc n) h =
    let x : ℕ = get_or xs i 0 in
    let l : o < w = omega arith in
    let b : bit_low w xs (i * w + o) ≡ x / 2 ^ o % 2 = rw (digits_div i l, digits_mod i l) in
    let ih : gather_low (bit_low w xs) (suc (i * w + o)) n ≡ x / 2 ^ o / 2 % 2 ^ n =
    ap (λ (j : ℕ). gather_low (bit_low w xs) j n) (sym (add-suc (i * w) o)) ∙ low_in w xs i (suc o) n (omega arith)
    ∙ ap (λ (y : ℕ). y % 2 ^ n) (ap (λ (k : ℕ). x / 2 ^ k) (sym (add-one o)) ∙ sym (shr-shr x o 1)) in
    let m : x / 2 ^ o % 2 ^ suc n ≡ x / 2 ^ o / 2 % 2 ^ n * 2 + x / 2 ^ o % 2 =
    ap (λ (k : ℕ). x / 2 ^ o % 2 ^ k) (sym (add-one n)) ∙ mod-pow-add (x / 2 ^ o) n 1 in
    rw (b, ih, m) (omega arith)

-- a whole element
pub low_whole : (w : ℕ) (xs : List ℕ) (i : ℕ) → get_or xs i 0 < 2 ^ w → gather_low (bit_low w xs) (i * w) w ≡ get_or xs i 0
low_whole w xs i x =
    ap (λ (j : ℕ). gather_low (bit_low w xs) j w) (sym (add-zero (i * w)))
    ∙ low_in w xs i 0 w (omega arith)
    ∙ ap (λ (y : ℕ). y % 2 ^ w) (div-one (get_or xs i 0))
    ∙ mod-eq_of_lt x

-- numbers of w bits made of the bits f have the bits f
pub low_tabulate : (f : ℕ → ℕ) → ((k : ℕ) → f k < 2) → (w n j : ℕ) → j < n * w → bit_low w (tabulate n (λ k. gather_low f (k * w) w)) j ≡ f j
unfolding bit_low
low_tabulate f h zero n j l = absurd (omega arith)
low_tabulate f h (suc v) n j l =
    let w : ℕ = suc v in
    let p : 0 < w = omega arith in
    rw (get_d_tabulate n (λ k. gather_low f (k * w) w) (j / w) ((div-lt_iff_lt-mul p).1 l), low_bit f h (j / w * w) w (j % w) (mod-lt j p))
    (ap f (div-add-mod' j w))

pub low_lt : (w : ℕ) (xs : List ℕ) (j : ℕ) → bit_low w xs j < 2
unfolding bit_low
low_lt w xs j = mod-lt _ (zero-lt-suc 1)

-- past the last number there are zeros
pub low_past : (w : ℕ) (xs : List ℕ) (j : ℕ) → 0 < w → length xs * w ≤ j → bit_low w xs j ≡ 0
unfolding bit_low
low_past w xs j p h = rw (List·getD-eq-default xs 0 ((le-div_iff_mul-le p).1 h), zero-div, zero-mod)

-- ---- low bit first is an order

unfoldable pub low_order : Order
low_order = record { bit_of = bit_low; gather = gather_low }

pub low_orderly : Orderly low_order
unfolding low_order
low_orderly =
    record {
      bit = low_lt;
      past = low_past;
      same = low_same;
      zero_bits = low_zero;
      zero_number = zero_low;
      small = low_small;
      whole = low_whole;
      made = low_tabulate;
    }
