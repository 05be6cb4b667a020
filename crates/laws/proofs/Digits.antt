-- Digits in a base: how many, back from the number, and to it. One law for every base. Assumes nothing.
use Rattle.format.specs.Kit.{◌≡◌, refl, sym, ap, ◌∙◌, List, [], ◌∷◌, ◌++◌, reverse, reverse-reverse, reverse-cons, ℕ, zero, suc, ◌+◌, ◌*◌, ◌/◌}
use Rattle.format.specs.Kit.{◌%◌, ◌^◌, ◌<◌, pow-zero, pow-suc, mod-one, mul_comm, add_comm, zero-add, add-mul-div_left, add-mul-mod_self_left}
use Rattle.format.specs.Kit.{div-eq_of_lt, mod-eq_of_lt, one-le-pow, add_assoc, mul-add, mul_assoc, one-mul, zero-mul, pow-succ', zero-lt-suc}
use Rattle.format.specs.Kit.{mul-le-mul_left, mul-suc, suc-mul, mod-lt, div-one, div-div-eq-div-mul, suc-add, arith, pow-add, mod-mul, length}
use Rattle.format.specs.Kit.{length-reverse, get_or, take, drop}
use Rattle.format.specs.Bytes.{digits, from_digits, high, from_high, low, from_low}
use Rattle.format.specs.Pairs.{Below}

-- ---- each below a bound

pub below_drop : (b n : ℕ) (l : List ℕ) → Below b l → Below b (drop n l)
below_drop b zero l t = t
below_drop b (suc n) [] t = tt
below_drop b (suc n) (x ∷ l) t = below_drop b n l t.1

pub below_take : (b n : ℕ) (l : List ℕ) → Below b l → Below b (take n l)
below_take b zero l t = tt
below_take b (suc n) [] t = tt
below_take b (suc n) (x ∷ l) t = (t.0, below_take b n l t.1)

-- ---- digits

pub length_digits : (b k n : ℕ) → length (digits b k n) ≡ k
unfolding digits
length_digits b zero n = refl
length_digits b (suc k) n = ap suc (length_digits b k (n / b))

pub from_digits_lem : (b k n : ℕ) → zero < b → from_digits b (digits b k n) ≡ n % b ^ k
unfolding digits from_digits
from_digits_lem b zero n h = rw pow-zero (sym (mod-one n))
from_digits_lem b (suc k) n h =
    ap (λ (x : ℕ). n % b + b * x) (from_digits_lem b k (n / b) h)
    ∙ ap (λ (x : ℕ). n % b + x) (mul_comm b (n / b % b ^ k))
    ∙ add_comm (n % b) (n / b % b ^ k * b)
    ∙ sym (mod-mul n (one-le-pow k b h) h)
    ∙ ap (λ (x : ℕ). n % x) (sym (pow-suc b k))

pub digits_from : (b : ℕ) (ds : List ℕ) → zero < b → Below b ds → digits b (length ds) (from_digits b ds) ≡ ds
unfolding digits from_digits
digits_from b [] h t = refl
digits_from b (d ∷ ds) h t =
    search (arith, add-mul-mod_self_left, mod-eq_of_lt, add-mul-div_left, div-eq_of_lt, zero-add, digits_from b ds h t.1)

pub digits_append : (b j k n : ℕ) → digits b (j + k) n ≡ digits b j n ++ digits b k (n / b ^ j)
unfolding digits
digits_append b zero k n = rw (zero-add, pow-zero, div-one)
digits_append b (suc j) k n = simp (suc-add, div-div-eq-div-mul, pow-succ', digits_append b j k (n / b))

pub below_digits : (b k n : ℕ) → zero < b → Below b (digits b k n)
unfolding digits
below_digits b zero n h = tt
below_digits b (suc k) n h = (mod-lt n h, below_digits b k (n / b) h)

-- the k low digits see no more of a number
pub digits_mod : (b k n : ℕ) → zero < b → digits b k (n % b ^ k) ≡ digits b k n
digits_mod b k n h =
    ap (digits b k) (sym (from_digits_lem b k n h))
    ∙ ap (λ (j : ℕ). digits b j (from_digits b (digits b k n))) (sym (length_digits b k n))
    ∙ digits_from b (digits b k n) h (below_digits b k n h)

pub from_append : (b : ℕ) (xs ys : List ℕ) → from_digits b (xs ++ ys) ≡ from_digits b xs + b ^ length xs * from_digits b ys
unfolding from_digits
from_append b [] ys = rw pow-zero (sym (zero-add (1 * from_digits b ys) ∙ one-mul (from_digits b ys)))
from_append b (x ∷ xs) ys = simp (mul-add, add_assoc, mul_assoc, pow-succ', from_append b xs ys)

pub length_high : (k n : ℕ) → length (high k n) ≡ k
length_high k n = length-reverse (low k n) ∙ length_digits 256 k n

pub from_high_lem : (k n : ℕ) → from_high (high k n) ≡ from_low (low k n)
from_high_lem k n = ap from_low (reverse-reverse (low k n))

pub from_lt : (b : ℕ) (ds : List ℕ) → zero < b → Below b ds → from_digits b ds < b ^ length ds
unfolding from_digits
from_lt b [] h t = rw pow-zero (zero-lt-suc 0)
from_lt b (d ∷ ds) h t =
    let f : from_digits b ds < b ^ length ds = from_lt b ds h t.1 in
    omega (arith, t.0, mul-le-mul_left b f, mul-suc b (from_digits b ds), pow-succ' b (length ds))

pub below_append : (b : ℕ) (xs ys : List ℕ) → Below b xs → Below b ys → Below b (xs ++ ys)
below_append b [] ys s t = t
below_append b (x ∷ xs) ys s t = (s.0, below_append b xs ys s.1 t)

pub below_front : (b : ℕ) (xs ys : List ℕ) → Below b (xs ++ ys) → Below b xs
below_front b [] ys t = tt
below_front b (x ∷ xs) ys t = (t.0, below_front b xs ys t.1)

pub below_reverse : (b : ℕ) (xs : List ℕ) → Below b xs → Below b (reverse xs)
below_reverse b [] t = tt
below_reverse b (x ∷ xs) t = rw reverse-cons (below_append b (reverse xs) (x ∷ []) (below_reverse b xs t.1) (t.0, tt))

pub pow_pow : (w n : ℕ) → (2 ^ w) ^ n ≡ 2 ^ (n * w)
pow_pow w zero = pow-zero (2 ^ w) ∙ ap (λ (x : ℕ). 2 ^ x) (sym (zero-mul w))
pow_pow w (suc n) =
    pow-suc (2 ^ w) n ∙ ap (λ (x : ℕ). x * 2 ^ w) (pow_pow w n) ∙ sym (pow-add 2 (n * w) w) ∙ ap (λ (x : ℕ). 2 ^ x) (sym (suc-mul n w))

pub div_pow : (n a b c : ℕ) → a + b ≡ c → n / 2 ^ a / 2 ^ b ≡ n / 2 ^ c
div_pow n a b c e = div-div-eq-div-mul n (2 ^ a) (2 ^ b) ∙ ap (λ (d : ℕ). n / d) (sym (pow-add 2 a b) ∙ ap (λ (k : ℕ). 2 ^ k) e)

-- each element is below b, by index
pub below_all : (b : ℕ) (s : List ℕ) → ((i : ℕ) → get_or s i 0 < b) → Below b s
below_all b [] h = tt
below_all b (x ∷ s) h = (h 0, below_all b s (λ i. h (suc i)))
