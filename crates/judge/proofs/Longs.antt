-- The 1024 longs of a dense block in either byte order: every 8192 bytes are the longs of some bitmap, and their ones are its ones, since a
-- long has the same ones in either order. Assumes nothing.
use Rattle.format.specs.Kit.{◌≡◌, refl, sym, ap, ap₂, ◌∙◌, subst, List, [], ◌∷◌, ◌++◌, append-nil, reverse, reverse-cons, ℕ, zero, suc, ◌+◌, ◌*◌, ◌/◌, ◌%◌}
use Rattle.format.specs.Kit.{◌^◌, ◌<◌, ◌≤◌, div-one, arith, lit<, ones_in, ones, ones_cat, pow_mono, length, take, drop, get_or, length-take, length-reverse}
use Rattle.format.specs.Kit.{drop-drop}
use Rattle.format.specs.Bytes.{digits, from_digits, low, from_low, from_high, bytes_of, low_at}
use Rattle.format.specs.Ids.{bitmap, count_below}
use Rattle.format.specs.Pairs.{Below, Asc}
use Rattle.format.specs.LookUp.{ones_from}
use Rattle.format.specs.Orders.{Order, low_byte, high_byte, bytes_in, fixed_at, numbers_in, longs_in}
use Rattle.laws.proofs.Bits.{below_at}
use Rattle.laws.proofs.Blocks.{low_back}
use Rattle.laws.proofs.Dense.{ones_from_lem}
use Rattle.laws.proofs.Digits.{below_take, below_drop, below_reverse, below_digits, digits_append, digits_mod, digits_from, from_lt, length_digits, pow_pow}
use Rattle.laws.proofs.Ones.{ones_in_lem, ones_below}
use Rattle.laws.proofs.Section.{length_bytes_of_lem}
use Rattle.judge.proofs.Numbers.{length_in, length_numbers, numbers_below, numbers_bytes, bytes_of_lem}

-- ---- bytes and bitmaps

-- low byte first they are the bytes of the bitmap
pub longs_low : (n m : ℕ) → bytes_of (low 8) (digits (2 ^ 64) n m) ≡ low (8 * n) m
unfolding bytes_of digits
longs_low zero m = refl
longs_low (suc n) m =
    let e : 8 * suc n ≡ 8 + 8 * n = omega arith in
    let first : low 8 (m % 2 ^ 64) ≡ low 8 m = digits_mod 256 8 m (lit< tt) in
    ap₂ {C = List ℕ} (λ (a b : List ℕ). a ++ b) first (longs_low n (m / 2 ^ 64)) ∙ sym (ap (λ (k : ℕ). low k m) e ∙ digits_append 256 8 (8 * n) m)

pub longs_long : (o : Order) (m : ℕ) → length (longs_in o m) ≡ 8192
unfolding longs_in
longs_long o m = length_bytes_of_lem 8 (bytes_in o 8) (length_in o 8) (digits (2 ^ 64) 1024 m) ∙ ap (λ (n : ℕ). 8 * n) (length_digits (2 ^ 64) 1024 m)

module _ (o : Order) (d : List ℕ) (h : 8192 ≤ length d) (t : Below 256 d) where
  abbrev pub map_of : ℕ
  map_of = from_digits (2 ^ 64) (numbers_in o 8 1024 d)

  small : Below (2 ^ 64) (numbers_in o 8 1024 d)
  small = numbers_below o 8 1024 d h t

  pub map_lt : map_of < 2 ^ 65536
  map_lt =
      subst (λ (n : ℕ). map_of < n) (ap (λ (n : ℕ). (2 ^ 64) ^ n) (length_numbers o 8 1024 d) ∙ pow_pow 64 1024)
      (from_lt (2 ^ 64) (numbers_in o 8 1024 d) (lit< tt) small)

  pub longs_back : longs_in o map_of ++ drop 8192 d ≡ d
  unfolding longs_in
  longs_back =
      ap (λ (l : List ℕ). bytes_of (bytes_in o 8) l ++ drop 8192 d)
      (ap (λ (n : ℕ). digits (2 ^ 64) n map_of) (sym (length_numbers o 8 1024 d)) ∙ digits_from (2 ^ 64) (numbers_in o 8 1024 d) (lit< tt) small)
      ∙ numbers_bytes o 8 1024 d h t

-- ---- ones

byte_ones : List ℕ → ℕ
byte_ones [] = 0
byte_ones (b ∷ bs) = ones b + byte_ones bs

ones_bytes : (bs : List ℕ) → Below 256 bs → ones (from_low bs) ≡ byte_ones bs
unfolding from_digits byte_ones ones ones_in
ones_bytes [] t = refl
ones_bytes (b ∷ bs) t =
    let e : b + 256 * from_low bs ≡ from_low bs * 2 ^ 8 + b = omega arith in
    ap ones e ∙ ones_cat 8 (from_low bs) b t.0 ∙ omega (arith, ones_bytes bs t.1)

append_ones : (xs ys : List ℕ) → byte_ones (xs ++ ys) ≡ byte_ones xs + byte_ones ys
unfolding byte_ones
append_ones [] ys = omega arith
append_ones (x ∷ xs) ys = omega (arith, append_ones xs ys)

one_byte : (b : ℕ) → byte_ones (b ∷ []) ≡ ones b + 0
unfolding byte_ones
one_byte b = refl

more_bytes : (b : ℕ) (bs : List ℕ) → byte_ones (b ∷ bs) ≡ ones b + byte_ones bs
unfolding byte_ones
more_bytes b bs = refl

reverse_ones : (bs : List ℕ) → byte_ones (reverse bs) ≡ byte_ones bs
reverse_ones [] = refl
reverse_ones (b ∷ bs) =
    ap byte_ones (reverse-cons b bs) ∙ append_ones (reverse bs) (b ∷ []) ∙ omega (arith, reverse_ones bs, one_byte b, more_bytes b bs)

long_lt : (bs : List ℕ) → Below 256 bs → length bs ≤ 8 → from_low bs < 2 ^ 64
long_lt bs t h =
    let a : from_low bs < (2 ^ 8) ^ length bs = from_lt 256 bs (lit< tt) t in
    let b : (2 ^ 8) ^ length bs ≡ 2 ^ (length bs * 8) = pow_pow 8 (length bs) in
    let c : 2 ^ (length bs * 8) ≤ 2 ^ 64 = pow_mono {j = 64} (omega arith) in
    omega (arith, a, b, c)

ones_reversed : (bs : List ℕ) → Below 256 bs → length bs ≤ 8 → ones_in 64 (from_high bs) ≡ ones_in 64 (from_low bs)
ones_reversed bs t h =
    let tr : Below 256 (reverse bs) = below_reverse 256 bs t in
    ones_in_lem 64 (from_high bs) (long_lt (reverse bs) tr (omega (arith, length-reverse bs)))
    ∙ ones_bytes (reverse bs) tr ∙ reverse_ones bs ∙ sym (ones_bytes bs t) ∙ sym (ones_in_lem 64 (from_low bs) (long_lt bs t h))

-- a long at a place has the same ones in either byte order
pub ones_either : (o : Order) (s : List ℕ) → Below 256 s → (at : ℕ) → ones_in 64 (fixed_at o 8 s at) ≡ ones_in 64 (low_at 8 s at)
unfolding fixed_at low_at
ones_either low_byte s u at = refl
ones_either high_byte s u at =
    ones_reversed (take 8 (drop at s)) (below_take 256 8 (drop at s) (below_drop 256 at s u)) (omega (arith, length-take 8 (drop at s)))

-- a long that was written, read low byte first
long_ones : (o : Order) (d : ℕ) → d < 2 ^ 64 → ones_in 64 (from_low (bytes_in o 8 d)) ≡ ones_in 64 d
long_ones low_byte d h = ap (ones_in 64) (low_back 8 d h)
long_ones high_byte d h =
    ones_reversed (low 8 d) (below_digits 256 8 d (lit< tt)) (omega (arith, length_digits 256 8 d)) ∙ ap (ones_in 64) (low_back 8 d h)

-- the ones of k longs of a list, from index a on
ones_of : List ℕ → ℕ → ℕ → ℕ
ones_of ds zero a = 0
ones_of ds (suc k) a = ones_in 64 (get_or ds a 0) + ones_of ds k (suc a)

module _ (o : Order) (ds : List ℕ) (small : Below (2 ^ 64) ds) (s : List ℕ) (m : ℕ) (rest : List ℕ) (here : drop m s ≡ bytes_of (bytes_in o 8) ds ++ rest) where
  one_long : (a : ℕ) → a < length ds → ones_in 64 (low_at 8 s (m + 8 * a)) ≡ ones_in 64 (get_or ds a 0)
  unfolding low_at
  one_long a h =
      ap (λ (l : List ℕ). ones_in 64 (from_low (take 8 l))) (sym (drop-drop (8 * a) m s) ∙ ap (drop (8 * a)) here)
      ∙ ap (λ (l : List ℕ). ones_in 64 (from_low l)) (bytes_of_lem o 8 ds a rest h) ∙ long_ones o (get_or ds a 0) (below_at (2 ^ 64) ds a small h)

  ones_are : (k a : ℕ) → a + k ≤ length ds → ones_from s m k a ≡ ones_of ds k a
  unfolding ones_from ones_of
  ones_are zero a h = refl
  ones_are (suc k) a h = ap₂ ◌+◌ (one_long a (omega arith)) (ones_are k (suc a) (omega arith))

-- the ones in the first k longs are the places below
pub ones_upto : (o : Order) (s : List ℕ) (m : ℕ) (rs rest : List ℕ) → Asc 0 rs → drop m s ≡ longs_in o (bitmap rs) ++ rest → (k : ℕ) → k ≤ 1024
    → ones_from s m k 0 ≡ count_below (64 * k) rs
unfolding longs_in
ones_upto o s m rs rest asc here k h =
    let b : ℕ = bitmap rs in
    let ds : List ℕ = digits (2 ^ 64) 1024 b in
    let small : Below (2 ^ 64) ds = below_digits (2 ^ 64) 1024 b (lit< tt) in
    let all : length ds ≡ 1024 = length_digits (2 ^ 64) 1024 b in
    let lows : low 8192 b ≡ bytes_of (low 8) ds ++ [] = sym (append-nil (bytes_of (low 8) ds) ∙ longs_low 1024 b) in
    ones_are o ds small s m rest here k 0 (omega arith) ∙ sym (ones_are low_byte ds small (low 8192 b) 0 [] lows k 0 (omega arith))
    ∙ ones_from_lem (low 8192 b) 0 b [] (sym (append-nil (low 8192 b))) k 0 (omega arith)
    ∙ ap (λ (n : ℕ). ones (n % 2 ^ (64 * k))) (div-one b) ∙ ones_below (64 * k) rs asc
