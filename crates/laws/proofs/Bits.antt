-- Bits: laws of `gather`, `bit_of`, `packed` and `fetched`, once for every width.
-- Assumes nothing.
use Rattle.format.specs.Kit.{◌≡◌, refl, sym, ap, ap₂, ◌∙◌, List, [], ◌∷◌, ◌++◌, ℕ, zero, suc, ◌+◌, ◌-◌, ◌*◌, ◌/◌, ◌%◌, ◌^◌, ◌≤◌, ◌<◌, mod-one}
use Rattle.format.specs.Kit.{mod-eq_of_lt, mod-lt, div-one, div-add-mod', div-lt_iff_lt-mul, le-div_iff_mul-le, zero-div, zero-mod, zero-lt-suc}
use Rattle.format.specs.Kit.{pow-suc, add_assoc, add-zero, zero-add, add-suc, mul_assoc, mul_comm, add-mul, suc-mul, mul-le-mul}
use Rattle.format.specs.Kit.{mul-le-mul_right, add-one, arith, length, get_or, List·getD-append, List·getD-eq-default, ext_get_or, mod-pow-add, shr-shr, high}
use Rattle.format.specs.Kit.{low}
use Rattle.format.specs.Kit.{digits_div, digits_mod, digits_lt}
use Rattle.format.specs.Bits.{bit_of, bit_at, gather, tabulate, bit_bytes, fetched, packed, unpacked}
use Rattle.format.specs.Pairs.{Below}
use Rattle.laws.proofs.Cases.{below_or}
use Rattle.laws.proofs.Orders as Orders
use Rattle.laws.proofs.Orders.{Order, Orderly, below_tabulate}
pub use Rattle.laws.proofs.Orders.{length_tabulate, get_d_tabulate}

-- a whole split
pub gather_add : (f : ℕ → ℕ) (j m n : ℕ) → gather f j (m + n) ≡ gather f j m * 2 ^ n + gather f (j + m) n
unfolding gather
gather_add f j m zero = rw (add-zero m) (omega arith)
gather_add f j m (suc n) =
    let ih : gather f j (m + n) ≡ gather f j m * 2 ^ n + gather f (j + m) n = gather_add f j m n in
    let e : gather f j m * 2 ^ suc n ≡ gather f j m * 2 ^ n * 2 = rw pow-suc (sym (mul_assoc _ _ _)) in
    let s : gather f j (m + suc n) ≡ gather f j (m + n) * 2 + f (j + (m + n)) = rw add-suc in
    let a : f (j + (m + n)) ≡ f (j + m + n) = ap f (sym (add_assoc j m n)) in
    omega arith

-- same bits, same number, wherever they stand
pub gather_same : (f g : ℕ → ℕ) (j l n : ℕ) → ((k : ℕ) → k < n → f (j + k) ≡ g (l + k)) → gather f j n ≡ gather g l n
unfolding gather
gather_same f g j l zero h = refl
gather_same f g j l (suc n) h = ap₂ (λ (x y : ℕ). x * 2 + y) (gather_same f g j l n (λ k i. h k (omega arith))) (h n (omega arith))

pub gather_ext : (f g : ℕ → ℕ) (j n : ℕ) → ((k : ℕ) → k < n → f (j + k) ≡ g (j + k)) → gather f j n ≡ gather g j n
gather_ext f g j n h = gather_same f g j j n h

-- n bits make a number of n bits
pub gather_lt : (f : ℕ → ℕ) → ((k : ℕ) → f k < 2) → (j n : ℕ) → gather f j n < 2 ^ n
unfolding gather
gather_lt f h j zero = omega arith
gather_lt f h j (suc n) = rw pow-suc (digits_lt (gather_lt f h j n) (h (j + n)))

-- zeros make 0, and nothing else does
pub gather_zero : (f : ℕ → ℕ) (j n : ℕ) → ((k : ℕ) → k < n → f (j + k) ≡ 0) → gather f j n ≡ 0
unfolding gather
gather_zero f j zero h = refl
gather_zero f j (suc n) h = rw (gather_zero f j n (λ k l. h k (omega arith)), h n (omega arith))

pub zero_gather : (f : ℕ → ℕ) (j n k : ℕ) → gather f j n ≡ 0 → k < n → f (j + k) ≡ 0
unfolding gather
zero_gather f j zero k e h = absurd (omega arith)
zero_gather f j (suc n) k e h =
    below_or k n (λ l. zero_gather f j n k (omega arith) l) (λ l. let q : k ≡ n = omega arith in ap (λ (i : ℕ). f (j + i)) q ∙ omega arith)

-- n of the bits of one number: those after its first o, and before its last k
pub gather_in : (w : ℕ) (xs : List ℕ) (i o n k : ℕ) → o + n + k ≡ w
    → gather (bit_of w xs) (i * w + o) n ≡ get_or xs i 0 / 2 ^ k % 2 ^ n
unfolding gather bit_of
gather_in w xs i o zero k e = sym (mod-one (get_or xs i 0 / 2 ^ k))
gather_in w xs i o (suc n) k e =
    let x : ℕ = get_or xs i 0 in
    let ih : gather (bit_of w xs) (i * w + o) n ≡ x / 2 ^ (k + 1) % 2 ^ n = gather_in w xs i o n (k + 1) (omega arith) in
    let l : o + n < w = omega arith in
    let q : (i * w + o + n) / w ≡ i = rw add_assoc (digits_div i l) in
    let r : (i * w + o + n) % w ≡ o + n = rw add_assoc (digits_mod i l) in
    let t : w - 1 - (o + n) ≡ k = omega arith in
    let b : bit_of w xs (i * w + o + n) ≡ x / 2 ^ k % 2 = rw (q, r, t) in
    let d : x / 2 ^ k / 2 ≡ x / 2 ^ (k + 1) = shr-shr x k 1 in
    let m : x / 2 ^ k % 2 ^ (n + 1) ≡ x / 2 ^ k / 2 % 2 ^ n * 2 + x / 2 ^ k % 2 = mod-pow-add (x / 2 ^ k) n 1 in
    rw (ih, b, ← add-one n, m, d)

-- a whole element
pub gather_whole : (w : ℕ) (xs : List ℕ) (i : ℕ) → get_or xs i 0 < 2 ^ w → gather (bit_of w xs) (i * w) w ≡ get_or xs i 0
gather_whole w xs i x = cc (add-zero (i * w), gather_in w xs i 0 w 0 (omega arith), div-one (get_or xs i 0), mod-eq_of_lt x)

-- n of the bits of a number made of bits: those after its first a, and before its last c
pub gather_part : (f : ℕ → ℕ) → ((k : ℕ) → f k < 2) → (j a n c t : ℕ) → a + n + c ≡ t → gather f j t / 2 ^ c % 2 ^ n ≡ gather f (j + a) n
gather_part f h j a n c t e =
    rw (← e, gather_add f j (a + n) c, high (gather f j (a + n)) c (gather_lt f h (j + (a + n)) c), gather_add f j a n)
    (low (gather f j a) n (gather_lt f h (j + a) n))

-- one bit of such a number
pub bit_gather : (f : ℕ → ℕ) → ((k : ℕ) → f k < 2) → (j n k m : ℕ) → m + suc k ≡ n → gather f j n / 2 ^ k % 2 ≡ f (j + m)
unfolding gather
bit_gather f h j n k m e = gather_part f h j m 1 k n (omega arith) ∙ zero-add (f (j + m + 0)) ∙ ap f (add-zero (j + m))

-- numbers of w bits made of the bits f have the bits f
pub bit_tabulate : (f : ℕ → ℕ) → ((k : ℕ) → f k < 2) → (w n j : ℕ) → j < n * w
    → bit_of w (tabulate n (λ k. gather f (k * w) w)) j ≡ f j
unfolding bit_of
bit_tabulate f h zero n j l = absurd (omega arith)
bit_tabulate f h (suc v) n j l =
    let w : ℕ = suc v in
    let p : 0 < w = omega arith in
    let q : j / w < n = (div-lt_iff_lt-mul p).1 l in
    let r : j % w < w = mod-lt j p in
    let k : ℕ = w - 1 - j % w in
    let e : j % w + suc k ≡ w = omega arith in
    rw (get_d_tabulate n (λ k. gather f (k * w) w) (j / w) q, bit_gather f h (j / w * w) w k (j % w) e) (ap f (div-add-mod' j w))

pub bit_lt : (w : ℕ) (xs : List ℕ) (j : ℕ) → bit_of w xs j < 2
unfolding bit_of
bit_lt w xs j = mod-lt _ (zero-lt-suc 1)

pub bit_at_lt : (s : List ℕ) (j : ℕ) → bit_at s j < 2
unfolding bit_at
bit_at_lt s j = mod-lt _ (zero-lt-suc 1)

-- past the last number there are zeros
pub bit_past : (w : ℕ) (xs : List ℕ) (j : ℕ) → 0 < w → length xs * w ≤ j → bit_of w xs j ≡ 0
unfolding bit_of
bit_past w xs j p h = rw (List·getD-eq-default xs 0 ((le-div_iff_mul-le p).1 h), zero-div, zero-mod)

-- ---- high bit first is an order

unfoldable pub high_order : Order
high_order = record { bit_of = bit_of; gather = gather }

pub high_orderly : Orderly high_order
unfolding high_order
high_orderly =
    record {
      bit = bit_lt;
      past = bit_past;
      same = gather_same;
      zero_bits = gather_zero;
      zero_number = zero_gather;
      small = gather_lt;
      whole = gather_whole;
      made = bit_tabulate;
    }

pub length_packed : (w : ℕ) (xs : List ℕ) → length (packed w xs) ≡ (length xs * w + 7) / 8
unfolding packed Orders.packed_by high_order
length_packed w xs = Orders.length_packed high_order w xs

-- what was packed is what is fetched
pub fetched_packed : (w : ℕ) (xs : List ℕ) (i : ℕ) → i < length xs → get_or xs i 0 < 2 ^ w → fetched (packed w xs) w i ≡ get_or xs i 0
unfolding packed fetched bit_at bit_of Orders.packed_by Orders.fetched_by high_order
fetched_packed = Orders.fetched_packed high_orderly

-- the bytes of packed numbers hold their bits, and then zeros
pub bits_packed : (w : ℕ) (xs : List ℕ) (j : ℕ) → j < 8 * length (packed w xs) → bit_at (packed w xs) j ≡ bit_of w xs j
unfolding packed bit_at bit_of Orders.packed_by high_order
bits_packed = Orders.bits_packed high_orderly

pub spare_packed : (w : ℕ) (xs : List ℕ) (j : ℕ) → length xs * w ≤ j → bit_at (packed w xs) j ≡ 0
unfolding packed bit_at bit_of Orders.packed_by high_order
spare_packed = Orders.spare_packed high_orderly

-- a string of the right length with zeros for its spare bits is what the numbers fetched in it pack to
pub packed_fetched : (w n : ℕ) (s : List ℕ) → length s ≡ bit_bytes (n * w) → ((k : ℕ) → get_or s k 0 < 256) → ((j : ℕ) → n * w ≤ j → bit_at s j ≡ 0)
    → packed w (tabulate n (fetched s w)) ≡ s
unfolding packed fetched bit_at bit_of Orders.packed_by Orders.fetched_by high_order
packed_fetched = Orders.packed_fetched high_orderly

-- bytes that follow do not matter
pub fetched_front : (s more : List ℕ) (w i : ℕ) → i * w + w ≤ 8 * length s → fetched (s ++ more) w i ≡ fetched s w i
unfolding fetched bit_at
fetched_front s more w i h =
    gather_ext (bit_at (s ++ more)) (bit_at s) (i * w) w
    (λ k b. ap (λ (x : ℕ). x / 2 ^ (7 - (i * w + k) % 8) % 2) (List·getD-append s more 0 ((i * w + k) / 8) (omega arith)))

-- a product by the eighths of its first factor
pub mul_by_eight : (i w : ℕ) → i * w ≡ i / 8 * w * 8 + i % 8 * w
mul_by_eight i w =
    cc (div-add-mod' i 8, add-mul (i / 8 * 8) (i % 8) w, mul_assoc (i / 8) 8 w, mul_comm 8 w, mul_assoc (i / 8) w 8)

pub low_product : (i w : ℕ) → w ≤ 64 → i % 8 * w ≤ 448
low_product i w h = mul-le-mul {n₁ = i % 8} {m₁ = w} {n₂ = 7} {m₂ = 64} (omega arith) h

-- the bits of a number are within those of all n
pub within : (i w n : ℕ) → i < n → i * w + w ≤ n * w
within i w n h = rw suc-mul at (mul-le-mul_right w h)

-- ---- the numbers of a string, all at once

pub below_at : (b : ℕ) (xs : List ℕ) (i : ℕ) → Below b xs → i < length xs → get_or xs i 0 < b
below_at b [] i t h = absurd (omega arith)
below_at b (x ∷ xs) zero t h = t.0
below_at b (x ∷ xs) (suc i) t h = below_at b xs i t.1 (omega arith)

-- of bytes, also past their end
pub byte_at : (s : List ℕ) → Below 256 s → (k : ℕ) → get_or s k 0 < 256
byte_at s u k =
    below_or k (length s)
    (λ h. below_at 256 s k u h)
    (λ h. let z : get_or s k 0 ≡ 0 = List·getD-eq-default s 0 h in omega arith)

pub fetched_lt : (s : List ℕ) (w i : ℕ) → fetched s w i < 2 ^ w
unfolding fetched
fetched_lt s w i = gather_lt (bit_at s) (bit_at_lt s) (i * w) w

pub unpacked_below : (w n : ℕ) (s : List ℕ) → Below (2 ^ w) (unpacked w n s)
unfolding unpacked
unpacked_below w n s = below_tabulate (2 ^ w) n (fetched s w) (fetched_lt s w)

pub length_unpacked : (w n : ℕ) (s : List ℕ) → length (unpacked w n s) ≡ n
unfolding unpacked
length_unpacked w n s = length_tabulate n (fetched s w)

-- one fetched alone is the one at its place among all
pub fetched_is : (w n : ℕ) (s : List ℕ) (i : ℕ) → i < n → get_or (unpacked w n s) i 0 ≡ fetched s w i
unfolding unpacked
fetched_is w n s i h = get_d_tabulate n (fetched s w) i h

-- what was packed is what is unpacked
pub unpacked_packed : (w : ℕ) (xs : List ℕ) → Below (2 ^ w) xs → unpacked w (length xs) (packed w xs) ≡ xs
unpacked_packed w xs u =
    ext_get_or 0 (unpacked w (length xs) (packed w xs)) xs (length_unpacked w (length xs) (packed w xs))
    (λ i h.
    let k : i < length xs = omega (arith, length_unpacked w (length xs) (packed w xs)) in
    fetched_is w (length xs) (packed w xs) i k ∙ fetched_packed w xs i k (below_at (2 ^ w) xs i u k))
