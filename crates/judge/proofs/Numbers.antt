-- Numbers in either byte order: to bytes and back. One law for both orders and every width. Assumes nothing.
use Rattle.format.specs.Kit.{◌≡◌, refl, sym, ap, ap₂, ◌∙◌, subst, List, [], ◌∷◌, ◌++◌, append_assoc, reverse, reverse-reverse, ℕ, zero, suc, ◌+◌, ◌*◌, ◌^◌}
use Rattle.format.specs.Kit.{◌<◌, ◌≤◌, mul-zero, mul-suc, add_comm, arith, lit<, length, take, drop, get_or, length-drop, length-reverse, length-take-le}
use Rattle.format.specs.Kit.{take-append-drop, take_at, drop_at, drop-drop}
use Rattle.format.specs.Bytes.{low, from_low, bytes_of}
use Rattle.format.specs.Pairs.{Below}
use Rattle.format.specs.Orders.{Order, low_byte, high_byte, bytes_in, number_in, numbers_in}
use Rattle.laws.proofs.Digits.{below_take, below_drop, below_reverse, digits_from, from_lt, length_digits, length_high, from_high_lem}
use Rattle.laws.proofs.Blocks.{low_back}

-- ---- one number

pub length_in : (o : Order) (k n : ℕ) → length (bytes_in o k n) ≡ k
length_in low_byte k n = length_digits 256 k n
length_in high_byte k n = length_high k n

pub number_back : (o : Order) (k n : ℕ) → n < 256 ^ k → number_in o (bytes_in o k n) ≡ n
number_back low_byte k n h = low_back k n h
number_back high_byte k n h = from_high_lem k n ∙ low_back k n h

pub bytes_back : (o : Order) (k : ℕ) (l : List ℕ) → length l ≡ k → Below 256 l → bytes_in o k (number_in o l) ≡ l
bytes_back low_byte k l e t = ap (λ (n : ℕ). low n (from_low l)) (sym e) ∙ digits_from 256 l (lit< tt) t
bytes_back high_byte k l e t =
    ap (λ (n : ℕ). reverse (low n (from_low (reverse l)))) (sym (length-reverse l ∙ e))
    ∙ ap reverse (digits_from 256 (reverse l) (lit< tt) (below_reverse 256 l t)) ∙ reverse-reverse l

number_lt : (o : Order) (l : List ℕ) → Below 256 l → number_in o l < 256 ^ length l
number_lt low_byte l t = from_lt 256 l (lit< tt) t
number_lt high_byte l t =
    subst (λ (n : ℕ). from_low (reverse l) < 256 ^ n) (length-reverse l) (from_lt 256 (reverse l) (lit< tt) (below_reverse 256 l t))

-- the first k bytes as a number
module _ (o : Order) (k : ℕ) (l : List ℕ) (h : k ≤ length l) (t : Below 256 l) where
  pub number_split : l ≡ bytes_in o k (number_in o (take k l)) ++ drop k l
  number_split =
      sym (take-append-drop k l)
      ∙ ap (λ (x : List ℕ). x ++ drop k l) (sym (bytes_back o k (take k l) (length-take-le k l h) (below_take 256 k l t)))

  pub first_lt : number_in o (take k l) < 256 ^ k
  first_lt = subst (λ (n : ℕ). number_in o (take k l) < 256 ^ n) (length-take-le k l h) (number_lt o (take k l) (below_take 256 k l t))

-- ---- numbers one after the other

module _ (o : Order) (k : ℕ) where
  pub length_numbers : (c : ℕ) (d : List ℕ) → length (numbers_in o k c d) ≡ c
  unfolding numbers_in
  length_numbers zero d = refl
  length_numbers (suc c) d = ap suc (length_numbers c (drop k d))

  pub numbers_below : (c : ℕ) (d : List ℕ) → k * c ≤ length d → Below 256 d → Below (256 ^ k) (numbers_in o k c d)
  unfolding numbers_in
  numbers_below zero d h t = tt
  numbers_below (suc c) d h t = (
    first_lt o k d (omega (arith, mul-suc k c)) t,
    numbers_below c (drop k d) (omega (arith, mul-suc k c, length-drop k d)) (below_drop 256 k d t),
  )

  pub numbers_bytes : (c : ℕ) (d : List ℕ) → k * c ≤ length d → Below 256 d → bytes_of (bytes_in o k) (numbers_in o k c d) ++ drop (k * c) d ≡ d
  unfolding numbers_in bytes_of
  numbers_bytes zero d h t = ap (λ (n : ℕ). drop n d) (mul-zero k)
  numbers_bytes (suc c) d h t =
      let first : List ℕ = bytes_in o k (number_in o (take k d)) in
      let more : List ℕ = bytes_of (bytes_in o k) (numbers_in o k c (drop k d)) in
      append_assoc first more (drop (k * suc c) d)
      ∙ ap (λ (l : List ℕ). first ++ (more ++ l)) (ap (λ (n : ℕ). drop n d) (mul-suc k c ∙ add_comm (k * c) k) ∙ sym (drop-drop (k * c) k d))
      ∙ ap (λ (l : List ℕ). first ++ l) (numbers_bytes c (drop k d) (omega (arith, mul-suc k c, length-drop k d)) (below_drop 256 k d t))
      ∙ sym (number_split o k d (omega (arith, mul-suc k c)) t)

  pub numbers_back : (xs rest : List ℕ) → Below (256 ^ k) xs → numbers_in o k (length xs) (bytes_of (bytes_in o k) xs ++ rest) ≡ xs
  unfolding numbers_in bytes_of
  numbers_back [] rest t = refl
  numbers_back (x ∷ xs) rest t =
      let more : List ℕ = bytes_of (bytes_in o k) xs ++ rest in
      let e : bytes_in o k x ++ bytes_of (bytes_in o k) xs ++ rest ≡ bytes_in o k x ++ more = append_assoc (bytes_in o k x) (bytes_of (bytes_in o k) xs) rest in
      ap₂ {C = List ℕ} (λ (a b : List ℕ). number_in o a ∷ numbers_in o k (length xs) b)
      (ap (take k) e ∙ take_at (bytes_in o k x) more k (length_in o k x)) (ap (drop k) e ∙ drop_at (bytes_in o k x) more k (length_in o k x))
      ∙ ap₂ {C = List ℕ} (λ (a : ℕ) (b : List ℕ). a ∷ b) (number_back o k x t.0) (numbers_back xs rest t.1)

  -- the bytes of the number of index i
  pub bytes_of_lem : (xs : List ℕ) (i : ℕ) (rest : List ℕ) → i < length xs → take k (drop (k * i) (bytes_of (bytes_in o k) xs ++ rest)) ≡ bytes_in o k (get_or xs i 0)
  unfolding bytes_of
  bytes_of_lem [] i rest h = absurd (omega arith)
  bytes_of_lem (x ∷ xs) zero rest h =
      ap (λ (n : ℕ). take k (drop n (bytes_in o k x ++ bytes_of (bytes_in o k) xs ++ rest))) (mul-zero k)
      ∙ ap (take k) (append_assoc (bytes_in o k x) (bytes_of (bytes_in o k) xs) rest)
      ∙ take_at (bytes_in o k x) (bytes_of (bytes_in o k) xs ++ rest) k (length_in o k x)
  bytes_of_lem (x ∷ xs) (suc i) rest h =
      let more : List ℕ = bytes_of (bytes_in o k) xs ++ rest in
      ap (λ (l : List ℕ). take k (drop (k * suc i) l)) (append_assoc (bytes_in o k x) (bytes_of (bytes_in o k) xs) rest)
      ∙ ap (λ (n : ℕ). take k (drop n (bytes_in o k x ++ more))) (mul-suc k i ∙ add_comm (k * i) k)
      ∙ ap (take k) (sym (drop-drop (k * i) k (bytes_in o k x ++ more)) ∙ ap (drop (k * i)) (drop_at (bytes_in o k x) more k (length_in o k x)))
      ∙ bytes_of_lem xs i rest (omega arith)
