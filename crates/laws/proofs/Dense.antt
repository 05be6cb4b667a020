-- The look-up in a dense block finds a place where it stands, for every rank power. Assumes nothing.
use Rattle.format.specs.Kit.{◌≡◌, refl, sym, ap, ap₂, ◌∙◌, subst, cond, List, ◌∷◌, ◌++◌, append_assoc, ℕ, zero, suc, ◌+◌, ◌-◌, ◌*◌, ◌/◌, ◌%◌}
use Rattle.format.specs.Kit.{◌^◌, ◌<◌, ◌≤◌, zero-le, pow-succ', pow-zero, div-one, div-div-eq-div-mul, mod-one, mod-lt, suc-add, add-zero}
use Rattle.format.specs.Kit.{mul-zero, zero-add, mul_comm, add_comm, lt_of_le_of_lt, mul_assoc, lt_of_lt_of_le, le_of_eq, mul-suc}
use Rattle.format.specs.Kit.{div-lt_iff_lt-mul, div-mul-le_self, arith, eqb, ltb, lit<, pow_mono, pow_pos, pow-add, mod-mod-pow, field, ones_in}
use Rattle.format.specs.Kit.{ones, ones-le, length, take, drop, drop-drop, drop_at, take_at, drop-append-le, take-append-le, ne_eqb, eq-eqb}
use Rattle.format.specs.Bytes.{digits, low, from_low, high, from_high, bytes_of, count_from, low_at, high_at}
use Rattle.format.specs.Ids.{bitmap, count_below, rank_table, rank_bytes}
use Rattle.format.specs.Pairs.{Asc}
use Rattle.format.specs.LookUp.{ones_from, stride_long, stride_rank, dense_at, inside, nowhere, broken}
use Rattle.laws.proofs.Cases.{equal_or}
use Rattle.laws.proofs.Digits.{length_digits, from_digits_lem, from_high_lem, length_high, pow_pow, div_pow}
use Rattle.laws.proofs.Places.{short_back}
use Rattle.laws.proofs.Section.{length_rank_table}
use Rattle.laws.proofs.Ones.{ones_in_lem, occurs, bit_is, ones_below, ones_bit, ones_join}

-- ---- parts of digits

pub drop_digits : (b j k n : ℕ) → drop j (digits b (j + k) n) ≡ digits b k (n / b ^ j)
unfolding digits
drop_digits b zero k n = rw (zero-add, pow-zero, div-one)
drop_digits b (suc j) k n =
    rw suc-add
    (drop_digits b j k (n / b) ∙ ap (digits b k) (div-div-eq-div-mul n b (b ^ j) ∙ ap (λ (d : ℕ). n / d) (sym (pow-succ' b j))))

pub take_digits : (b j k n : ℕ) → take j (digits b (j + k) n) ≡ digits b j n
unfolding digits
take_digits b zero k n = refl
take_digits b (suc j) k n = rw suc-add (ap {B = List ℕ} (λ (l : List ℕ). n % b ∷ l) (take_digits b j k (n / b)))

-- ---- the longs of a bitmap m that stands at a place of a section

module _ (s : List ℕ) (at m : ℕ) (rest : List ℕ) (here : drop at s ≡ low 8192 m ++ rest) where
  pub long_at_lem : (q : ℕ) → q < 1024 → low_at 8 s (at + 8 * q) ≡ m / 2 ^ (64 * q) % 2 ^ 64
  unfolding low_at
  long_at_lem q h =
      ap (λ (l : List ℕ). from_low (take 8 l))
      (sym (drop-drop (8 * q) at s) ∙ ap (drop (8 * q)) here
      ∙ drop-append-le (8 * q) (low 8192 m) rest (omega (arith, length_digits 256 8192 m))
      ∙ ap (λ (l : List ℕ). l ++ rest) (ap (λ (k : ℕ). drop (8 * q) (low k m)) split1 ∙ drop_digits 256 (8 * q) (8 + k) m))
      ∙ ap from_low (take-append-le 8 (low (8 + k) (m / 256 ^ (8 * q))) rest (omega (arith, length_digits 256 (8 + k) (m / 256 ^ (8 * q))))
      ∙ take_digits 256 8 k (m / 256 ^ (8 * q)))
      ∙ from_digits_lem 256 8 (m / 256 ^ (8 * q)) (lit< tt)
      ∙ ap (λ (d : ℕ). m / d % 2 ^ 64) (pow_pow 8 (8 * q) ∙ ap (λ (e : ℕ). 2 ^ e) eight)
    where
      k : ℕ
      k = 8184 - 8 * q

      split1 : 8192 ≡ 8 * q + (8 + k)
      split1 = omega arith

      eight : 8 * q * 8 ≡ 64 * q
      eight = omega arith

  pub ones_from_lem : (k a : ℕ) → a + k ≤ 1024 → ones_from s at k a ≡ ones (m / 2 ^ (64 * a) % 2 ^ (64 * k))
  unfolding ones_from
  ones_from_lem zero a h = rw mod-one (sym (ones_bit 0 (lit< tt)))
  ones_from_lem (suc k) a h =
      ap₂ ◌+◌ (ap (ones_in 64) (long_at_lem a (omega arith)) ∙ ones_in_lem 64 (m / 2 ^ (64 * a) % 2 ^ 64) (mod-lt (m / 2 ^ (64 * a)) (pow_pos 64)))
      (ones_from_lem k (suc a) (omega arith) ∙ ap (λ (n : ℕ). ones (n % 2 ^ (64 * k))) (sym (div_pow m (64 * a) 64 (64 * suc a) up)))
      ∙ sym (ones_join (m / 2 ^ (64 * a)) 64 (64 * k) (64 * suc k) more)
    where
      up : 64 * a + 64 ≡ 64 * suc a
      up = omega arith

      more : 64 + 64 * k ≡ 64 * suc k
      more = omega arith

  -- the ones in the longs from f up to that of r, and those below r in its own: all from long f on below r
  ones_within : (f r : ℕ) → r < 65536 → f ≤ r / 64
      → ones (m % 2 ^ (64 * f)) + ones_from s at (r / 64 - f) f + ones_in 64 (low_at 8 s (at + 8 * (r / 64)) % 2 ^ (r % 64)) ≡ ones (m % 2 ^ r)
  ones_within f r h k =
      ap₂ (λ (x y : ℕ). ones (m % 2 ^ (64 * f)) + x + y) (ones_from_lem (r / 64 - f) f (omega arith)) last
      ∙ ap (λ (x : ℕ). x + ones (m / 2 ^ (64 * (r / 64)) % 2 ^ (r % 64)))
      (sym (ones_join m (64 * f) (64 * (r / 64 - f)) (64 * (r / 64)) sum1))
      ∙ sym (ones_join m (64 * (r / 64)) (r % 64) r sum2)
    where
      sum1 : 64 * f + 64 * (r / 64 - f) ≡ 64 * (r / 64)
      sum1 = omega arith

      sum2 : 64 * (r / 64) + r % 64 ≡ r
      sum2 = omega arith

      e64 : 64 ≡ 64 - r % 64 + r % 64
      e64 = omega arith

      long : ℕ
      long = m / 2 ^ (64 * (r / 64))

      cut : long % 2 ^ 64 % 2 ^ (r % 64) ≡ long % 2 ^ (r % 64)
      cut = ap (λ (e : ℕ). long % 2 ^ e % 2 ^ (r % 64)) e64 ∙ mod-mod-pow long (64 - r % 64) (r % 64)

      last : ones_in 64 (low_at 8 s (at + 8 * (r / 64)) % 2 ^ (r % 64)) ≡ ones (long % 2 ^ (r % 64))
      last =
          ap (λ (n : ℕ). ones_in 64 (n % 2 ^ (r % 64))) (long_at_lem (r / 64) (omega arith))
          ∙ ap (ones_in 64) cut
          ∙ ones_in_lem 64 (long % 2 ^ (r % 64)) (lt_of_lt_of_le (mod-lt long (pow_pos (r % 64))) (pow_mono {i = r % 64} {j = 64} (omega arith)))

  -- the bit of r in its long is bit r of the bitmap
  pub bit_at_lem : (r : ℕ) → r < 65536 → low_at 8 s (at + 8 * (r / 64)) / 2 ^ (r % 64) % 2 ≡ m / 2 ^ r % 2
  bit_at_lem r h =
      ap (λ (n : ℕ). n / 2 ^ (r % 64) % 2) (long_at_lem (r / 64) (omega arith) ∙ ap (λ (e : ℕ). long % 2 ^ e) e64)
      ∙ ap (λ (n : ℕ). n % 2) (field long (suc j) (r % 64))
      ∙ ap (λ (e : ℕ). long / 2 ^ (r % 64) % 2 ^ e % 2) one_up ∙ mod-mod-pow (long / 2 ^ (r % 64)) j 1
      ∙ ap (λ (n : ℕ). n % 2) (div_pow m (64 * (r / 64)) (r % 64) r whole)
    where
      j : ℕ
      j = 63 - r % 64

      long : ℕ
      long = m / 2 ^ (64 * (r / 64))

      e64 : 64 ≡ suc j + r % 64
      e64 = omega arith

      one_up : suc j ≡ j + 1
      one_up = omega arith

      whole : 64 * (r / 64) + r % 64 ≡ r
      whole = omega arith

-- ---- ranks

pub bytes_at : (k : ℕ) (f : ℕ → List ℕ) → ((x : ℕ) → length (f x) ≡ k) → (n a i : ℕ) (rest : List ℕ) → i < n
    → take k (drop (k * i) (bytes_of f (count_from n a) ++ rest)) ≡ f (a + i)
unfolding bytes_of count_from
bytes_at k f h zero a i rest l = absurd (omega arith)
bytes_at k f h (suc n) a zero rest l =
    rw (mul-zero, append_assoc (f a) (bytes_of f (count_from n (suc a))) rest)
    (take_at (f a) (bytes_of f (count_from n (suc a)) ++ rest) k (h a) ∙ ap f (sym (add-zero a)))
bytes_at k f h (suc n) a (suc i) rest l =
    rw (append_assoc (f a) (bytes_of f (count_from n (suc a))) rest)
    (ap (λ (d : ℕ). take k (drop d (f a ++ (bytes_of f (count_from n (suc a)) ++ rest)))) (mul-suc k i ∙ add_comm (k * i) k)
    ∙ ap (take k)
    (sym (drop-drop (k * i) k (f a ++ (bytes_of f (count_from n (suc a)) ++ rest)))
    ∙ ap (drop (k * i)) (drop_at (f a) (bytes_of f (count_from n (suc a)) ++ rest) k (h a)))
    ∙ bytes_at k f h n (suc a) i rest (omega arith)
    ∙ ap f (shift a i))
  where
    shift : (a i : ℕ) → suc a + i ≡ a + suc i
    shift a i = omega arith

-- no more places below x than x
count_le : (x : ℕ) (rs : List ℕ) → Asc 0 rs → count_below x rs ≤ x
count_le x rs asc = subst (λ (n : ℕ). n ≤ x) (ones_below x rs asc) (ones-le x (bitmap rs % 2 ^ x) (mod-lt (bitmap rs) (pow_pos x)))

-- a stride's longs are its places, and all strides are all places
pub stride_bits : (p j : ℕ) → 6 ≤ p → 64 * (j * 2 ^ (p - 6)) ≡ j * 2 ^ p
stride_bits p j h =
    let six : p - 6 + 6 ≡ p = omega arith in
    mul_comm 64 (j * 2 ^ (p - 6)) ∙ mul_assoc j (2 ^ (p - 6)) (2 ^ 6) ∙ ap (λ (x : ℕ). j * x) (sym (pow-add 2 (p - 6) 6) ∙ ap (λ (e : ℕ). 2 ^ e) six)

pub strides_all : (p : ℕ) → p ≤ 16 → 2 ^ (16 - p) * 2 ^ p ≡ 65536
strides_all p h =
    let sixteen : 16 - p + p ≡ 16 = omega arith in
    sym (pow-add 2 (16 - p) p) ∙ ap (λ (x : ℕ). 2 ^ x) sixteen

module _ (p : ℕ) (rs s : List ℕ) (t : ℕ) (rest : List ℕ) (asc : Asc 0 rs) (here : drop t s ≡ rank_table p rs ++ rest) where
  pub rank_bytes_lem : (i : ℕ) → (p ≡ 0 → ⊥) → i < 2 ^ (16 - p) → take 2 (drop (2 * i) (rank_table p rs ++ rest)) ≡ high 2 (count_below (i * 2 ^ p) rs)
  unfolding rank_table
  rank_bytes_lem i hp h =
      rw (ne_eqb p 0 hp)
      (bytes_at 2 (λ x. high 2 (count_below (x * 2 ^ p) rs)) (λ x. length_high 2 (count_below (x * 2 ^ p) rs)) (2 ^ (16 - p)) 0 i rest h
      ∙ ap (λ (x : ℕ). high 2 (count_below (x * 2 ^ p) rs)) (zero-add i))

  pub rank_at : (i : ℕ) → (p ≡ 0 → ⊥) → i < 2 ^ (16 - p) → i * 2 ^ p < 65536 → high_at 2 s (t + 2 * i) ≡ count_below (i * 2 ^ p) rs
  unfolding high_at
  rank_at i hp h k =
      ap (λ (l : List ℕ). from_high (take 2 l)) (sym (drop-drop (2 * i) t s) ∙ ap (drop (2 * i)) here)
      ∙ ap from_high (rank_bytes_lem i hp h)
      ∙ from_high_lem 2 (count_below (i * 2 ^ p) rs)
      ∙ short_back (count_below (i * 2 ^ p) rs) (lt_of_le_of_lt (count_le (i * 2 ^ p) rs asc) k)

  -- the stride's first long, and the ones before it
  module _ (hp : p ≤ 16) (hq : (p ≡ 0 → ⊥) → 6 ≤ p) (r : ℕ) (hr : r < 65536) where
    stride_le : stride_long p r ≤ r / 64
    unfolding stride_long
    stride_le =
        equal_or p 0
        (λ e. rw (eq-eqb p 0 e) zero-le)
        (λ e. rw (ne_eqb p 0 e) (omega (arith, stride_bits p (r / 2 ^ p) (hq e), div-mul-le_self r (2 ^ p))))

    stride_rank_lem : stride_rank p s t r ≡ ones (bitmap rs % 2 ^ (64 * stride_long p r))
    unfolding stride_rank stride_long
    stride_rank_lem =
        equal_or p 0
        (λ e. rw (eq-eqb p 0 e) (sym (ap ones (mod-one (bitmap rs)) ∙ ones_bit 0 (lit< tt))))
        (λ e.
        rw (ne_eqb p 0 e)
        (rank_at (r / 2 ^ p) e ((div-lt_iff_lt-mul (pow_pos p)).1 (lt_of_lt_of_le hr (le_of_eq (sym (strides_all p hp)))))
        (lt_of_le_of_lt (div-mul-le_self r (2 ^ p)) hr)
        ∙ sym (ones_below (r / 2 ^ p * 2 ^ p) rs asc) ∙ ap (λ (x : ℕ). ones (bitmap rs % 2 ^ x)) (sym (stride_bits p (r / 2 ^ p) (hq e)))))

-- the longs stand after the ranks
pub longs_at : (p : ℕ) (rs s : List ℕ) (t : ℕ) (rest : List ℕ) → p ≤ 16 → drop t s ≡ rank_table p rs ++ (low 8192 (bitmap rs) ++ rest)
    → drop (t + rank_bytes p) s ≡ low 8192 (bitmap rs) ++ rest
longs_at p rs s t rest hp here =
    sym (drop-drop (rank_bytes p) t s) ∙ ap (drop (rank_bytes p)) here
    ∙ drop_at (rank_table p rs) (low 8192 (bitmap rs) ++ rest) (rank_bytes p) (length_rank_table p rs hp)

-- A dense block at t of a section: a look-up of place r there
module _ (p : ℕ) (rs s : List ℕ) (t : ℕ) (rest : List ℕ) (asc : Asc 0 rs) (here : drop t s ≡ rank_table p rs ++ (low 8192 (bitmap rs) ++ rest))
    (hp : p ≤ 16) (hq : (p ≡ 0 → ⊥) → 6 ≤ p) (r : ℕ) (hr : r < 65536) where
  there : drop (t + rank_bytes p) s ≡ low 8192 (bitmap rs) ++ rest
  there = longs_at p rs s t rest hp here

  pub inner_is : stride_rank p s t r + ones_from s (t + rank_bytes p) (r / 64 - stride_long p r) (stride_long p r)
      + ones_in 64 (low_at 8 s (t + rank_bytes p + 8 * (r / 64)) % 2 ^ (r % 64)) ≡ count_below r rs
  inner_is =
      ap
      (λ (x : ℕ).
      x + ones_from s (t + rank_bytes p) (r / 64 - stride_long p r) (stride_long p r) + ones_in 64 (low_at 8 s (t + rank_bytes p + 8 * (r / 64)) % 2 ^ (r % 64)))
      (stride_rank_lem p rs s t (low 8192 (bitmap rs) ++ rest) asc here hp hq r hr)
      ∙ ones_within s (t + rank_bytes p) (bitmap rs) rest there (stride_long p r) r hr (stride_le p rs s t (low 8192 (bitmap rs) ++ rest) asc here hp hq r hr)
      ∙ ones_below r rs asc

  pub dense_is : (c : ℕ) → dense_at p s t c r
      ≡ cond (eqb (occurs r rs) 0) (nowhere 1) (cond (ltb (count_below r rs) c) (inside (count_below r rs) (r / 64 - stride_long p r + 1)) broken)
  unfolding dense_at
  dense_is c = rw (bit_at_lem s (t + rank_bytes p) (bitmap rs) rest there r hr, bit_is r rs asc, inner_is)
