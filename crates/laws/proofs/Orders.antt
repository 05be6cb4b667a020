-- Orders of bits: which bit comes first, in stored numbers and in bytes alike. What is packed and fetched by one, once for every order and
-- every width. Assumes nothing.
use Rattle.format.specs.Kit.{◌≡◌, refl, sym, ap, ◌∙◌, List, ℕ, zero, suc, ◌+◌, ◌*◌, ◌^◌, ◌≤◌, ◌<◌, mul-le-mul_right, suc-mul, arith, length, get_or}
use Rattle.format.specs.Kit.{ext_get_or}
use Rattle.format.specs.Bits.{tabulate, bit_bytes, packed_bytes}
use Rattle.format.specs.Pairs.{Below}
use Rattle.laws.proofs.Cases.{below_or}

-- ---- numbers in a table

pub length_tabulate : (n : ℕ) (f : ℕ → ℕ) → length (tabulate n f) ≡ n
unfolding tabulate
length_tabulate zero f = refl
length_tabulate (suc n) f = ap suc (length_tabulate n (λ k. f (suc k)))

pub get_d_tabulate : (n : ℕ) (f : ℕ → ℕ) (i : ℕ) → i < n → get_or (tabulate n f) i 0 ≡ f i
unfolding tabulate
get_d_tabulate zero f i h = absurd (omega arith)
get_d_tabulate (suc n) f zero h = refl
get_d_tabulate (suc n) f (suc i) h = get_d_tabulate n (λ k. f (suc k)) i (omega arith)

pub below_tabulate : (b n : ℕ) (f : ℕ → ℕ) → ((i : ℕ) → f i < b) → Below b (tabulate n f)
unfolding tabulate
below_tabulate b zero f h = tt
below_tabulate b (suc n) f h = (h 0, below_tabulate b n (λ k. f (suc k)) (λ k. h (suc k)))

-- ---- an order

pub record Order : Type 0 where
  -- bit j of numbers of w bits each, written one after the other
  pub bit_of : ℕ → List ℕ → ℕ → ℕ
  -- the number whose bits are f j, f (j + 1), .., f (j + n - 1)
  pub gather : (ℕ → ℕ) → ℕ → ℕ → ℕ

-- what an order owes
pub record Orderly (o : Order) : Type 0 where
  pub bit : (w : ℕ) (xs : List ℕ) (j : ℕ) → o.bit_of w xs j < 2
  pub past : (w : ℕ) (xs : List ℕ) (j : ℕ) → 0 < w → length xs * w ≤ j → o.bit_of w xs j ≡ 0
  pub same : (f g : ℕ → ℕ) (j l n : ℕ) → ((k : ℕ) → k < n → f (j + k) ≡ g (l + k)) → o.gather f j n ≡ o.gather g l n
  pub zero_bits : (f : ℕ → ℕ) (j n : ℕ) → ((k : ℕ) → k < n → f (j + k) ≡ 0) → o.gather f j n ≡ 0
  pub zero_number : (f : ℕ → ℕ) (j n k : ℕ) → o.gather f j n ≡ 0 → k < n → f (j + k) ≡ 0
  pub small : (f : ℕ → ℕ) → ((k : ℕ) → f k < 2) → (j n : ℕ) → o.gather f j n < 2 ^ n
  pub whole : (w : ℕ) (xs : List ℕ) (i : ℕ) → get_or xs i 0 < 2 ^ w → o.gather (o.bit_of w xs) (i * w) w ≡ get_or xs i 0
  pub made : (f : ℕ → ℕ) → ((k : ℕ) → f k < 2) → (w n j : ℕ) → j < n * w → o.bit_of w (tabulate n (λ k. o.gather f (k * w) w)) j ≡ f j

-- byte k of the packed numbers has bits 8k to 8k + 7; number i has bits iw to iw + w - 1
unfoldable pub packed_by : Order → ℕ → List ℕ → List ℕ
packed_by o w xs = tabulate (packed_bytes (length xs) w) (λ k. o.gather (o.bit_of w xs) (k * 8) 8)

unfoldable pub fetched_by : Order → List ℕ → ℕ → ℕ → ℕ
fetched_by o s w i = o.gather (o.bit_of 8 s) (i * w) w

-- where n numbers of w bits have a byte, w is not 0
some_width : (n w k : ℕ) → k < bit_bytes (n * w) → 0 < w
some_width n zero k l = absurd (omega arith)
some_width n (suc w) k l = omega arith

pub length_packed : (o : Order) (w : ℕ) (xs : List ℕ) → length (packed_by o w xs) ≡ packed_bytes (length xs) w
unfolding packed_by
length_packed o w xs = length_tabulate (packed_bytes (length xs) w) (λ k. o.gather (o.bit_of w xs) (k * 8) 8)

module _ {o : Order} (law : Orderly o) where
  pub fetched_small : (s : List ℕ) (w i : ℕ) → fetched_by o s w i < 2 ^ w
  unfolding fetched_by
  fetched_small s w i = law.small (o.bit_of 8 s) (law.bit 8 s) (i * w) w

  -- the bytes of packed numbers hold their bits, and then zeros
  pub bits_packed : (w : ℕ) (xs : List ℕ) (j : ℕ) → j < 8 * length (packed_by o w xs) → o.bit_of 8 (packed_by o w xs) j ≡ o.bit_of w xs j
  unfolding packed_by
  bits_packed w xs j h = law.made (o.bit_of w xs) (law.bit w xs) 8 (packed_bytes (length xs) w) j (omega (arith, length_packed o w xs))

  pub bits_past : (s : List ℕ) (j : ℕ) → 8 * length s ≤ j → o.bit_of 8 s j ≡ 0
  bits_past s j h = law.past 8 s j (omega arith) (omega arith)

  pub spare_packed : (w : ℕ) (xs : List ℕ) (j : ℕ) → length xs * w ≤ j → o.bit_of 8 (packed_by o w xs) j ≡ 0
  spare_packed w xs j h =
      below_or j (8 * length (packed_by o w xs))
      (λ l. bits_packed w xs j l ∙ law.past w xs j (some_width (length xs) w 0 (omega (arith, length_packed o w xs))) h)
      (λ l. bits_past (packed_by o w xs) j l)

  -- what was packed is what is fetched
  pub fetched_packed : (w : ℕ) (xs : List ℕ) (i : ℕ) → i < length xs → get_or xs i 0 < 2 ^ w → fetched_by o (packed_by o w xs) w i ≡ get_or xs i 0
  unfolding fetched_by
  fetched_packed w xs i h x =
      let l : suc i * w ≤ length xs * w = mul-le-mul_right w h in
      let c : suc i * w ≡ i * w + w = suc-mul i w in
      law.same (o.bit_of 8 (packed_by o w xs)) (o.bit_of w xs) (i * w) (i * w) w
      (λ k b. bits_packed w xs (i * w + k) (omega (arith, length_packed o w xs)))
      ∙ law.whole w xs i x

  -- the numbers fetched in a string have its bits, up to the spare bits
  bits_fetched : (w n : ℕ) (s : List ℕ) → 0 < w → ((j : ℕ) → n * w ≤ j → o.bit_of 8 s j ≡ 0) → (j : ℕ)
      → o.bit_of w (tabulate n (fetched_by o s w)) j ≡ o.bit_of 8 s j
  unfolding fetched_by
  bits_fetched w n s p spare j =
      below_or j (n * w) (law.made (o.bit_of 8 s) (law.bit 8 s) w n j)
      (λ past. law.past w (tabulate n (fetched_by o s w)) j p (rw (length_tabulate n (fetched_by o s w)) past) ∙ sym (spare j past))

  -- a string of the right length with zeros for its spare bits is what the numbers fetched in it pack to
  pub packed_fetched : (w n : ℕ) (s : List ℕ) → length s ≡ packed_bytes n w → ((k : ℕ) → get_or s k 0 < 256)
      → ((j : ℕ) → n * w ≤ j → o.bit_of 8 s j ≡ 0) → packed_by o w (tabulate n (fetched_by o s w)) ≡ s
  unfolding packed_by
  packed_fetched w n s l byte spare =
      let xs : List ℕ = tabulate n (fetched_by o s w) in
      let len : length (packed_by o w xs) ≡ packed_bytes n w =
      length_packed o w xs ∙ ap (λ (m : ℕ). packed_bytes m w) (length_tabulate n (fetched_by o s w)) in
      ext_get_or 0 (packed_by o w xs) s (len ∙ sym l)
      (λ k h.
      get_d_tabulate (packed_bytes (length xs) w) (λ k. o.gather (o.bit_of w xs) (k * 8) 8) k (rw (length_packed o w xs) at h)
      ∙ law.same (o.bit_of w xs) (o.bit_of 8 s) (k * 8) (k * 8) 8 (λ i _. bits_fetched w n s (some_width n w k (rw len at h)) spare (k * 8 + i))
      ∙ law.whole 8 s k (byte k))
