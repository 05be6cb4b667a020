-- The ones of a bitmap: bit x is set for a place x, and the ones below x are the places below x. Assumes nothing.
use Rattle.format.specs.Kit.{◌≡◌, refl, sym, ap, ap₂, ◌∙◌, cond, List, [], ◌∷◌, ℕ, zero, suc, ◌+◌, ◌*◌, ◌/◌, ◌%◌, ◌^◌, ◌<◌, zero-le, pow-succ'}
use Rattle.format.specs.Kit.{pow-zero, div-one, div-div-eq-div-mul, mod-one, mod-lt, zero-div, le_refl, add-zero, zero-add, add_comm, suc-add}
use Rattle.format.specs.Kit.{arith, eqb, lit<, pow_pos, mod-pow-add, ones_in, ones, ones_step, ones_cat, ne_eqb, eq-eqb, lt-ltb, le-ltb}
use Rattle.format.specs.Ids.{bitmap, count_below}
use Rattle.format.specs.Pairs.{Asc}
use Rattle.format.specs.LookUp.{ones_from}
use Rattle.format.specs.Runs.{bits_above}
use Rattle.laws.proofs.Cases.{below_or, equal_or}
use Rattle.laws.proofs.Places.{asc_weaken, bitmap_is, bits_step, bits_first, bits_nil, half_odd, half_even}

-- the count of 64 digits, which computes, is the count of all
pub ones_in_lem : (k n : ℕ) → n < 2 ^ k → ones_in k n ≡ ones n
unfolding ones_in ones
ones_in_lem zero n h =
    let z : n ≡ 0 = omega (arith, pow-zero 2) in
    rw z
ones_in_lem (suc k) n h = ap (λ (x : ℕ). n % 2 + x) (ones_in_lem k (n / 2) (omega (arith, pow-succ' 2 k))) ∙ sym (ones_step n)

-- how often x stands in a list
unfoldable pub occurs : ℕ → List ℕ → ℕ
occurs x [] = 0
occurs x (r ∷ rs) = cond (eqb r x) 1 0 + occurs x rs

pub occurs_none : (x a : ℕ) (rs : List ℕ) → x < a → Asc a rs → occurs x rs ≡ 0
unfolding occurs
occurs_none x a [] h t = refl
occurs_none x a (r ∷ rs) h t = rw (ne_eqb r x (λ e. omega (arith, t.0)), occurs_none x (suc r) rs (omega (arith, t.0)) t.1)

occurs_first : (x r : ℕ) (rs : List ℕ) → r ≡ x → occurs x (r ∷ rs) ≡ 1 + occurs x rs
unfolding occurs
occurs_first x r rs e = rw (eq-eqb r x e)

occurs_later : (x r : ℕ) (rs : List ℕ) → (r ≡ x → ⊥) → occurs x (r ∷ rs) ≡ occurs x rs
unfolding occurs
occurs_later x r rs e = rw (ne_eqb r x e) (zero-add (occurs x rs))

occurs_nil : (x : ℕ) → occurs x [] ≡ 0
unfolding occurs
occurs_nil x = refl

-- a bit further up is a bit of the half
bit_up : (n x : ℕ) → n / 2 ^ suc x % 2 ≡ n / 2 / 2 ^ x % 2
bit_up n x = ap (λ (d : ℕ). n / d % 2) (pow-succ' 2 x) ∙ ap (λ (d : ℕ). d % 2) (sym (div-div-eq-div-mul n 2 (2 ^ x)))

bit_of_lem : (x s : ℕ) (rs : List ℕ) → Asc s rs → bits_above s rs / 2 ^ x % 2 ≡ occurs (s + x) rs
bit_of_lem x s [] t = rw (bits_nil, occurs_nil) (ap (λ (d : ℕ). d % 2) (zero-div (2 ^ x)))
bit_of_lem zero s (r ∷ rs) t =
    rw (pow-zero, div-one, add-zero)
    (equal_or r s
    (λ e. omega (arith, bits_first s r rs e, bits_step s (suc r) rs (omega arith) t.1, occurs_first s r rs e, occurs_none s (suc r) rs (omega arith) t.1))
    (λ e.
    omega (arith, bits_step s r (r ∷ rs) (omega (arith, t.0)) (le_refl r, t.1), occurs_none s r (r ∷ rs) (omega (arith, t.0)) (le_refl r, t.1))))
bit_of_lem (suc x) s (r ∷ rs) t =
    equal_or r s
    (λ e.
    let h : bits_above s (r ∷ rs) / 2 ≡ bits_above (suc s) rs =
    half_odd (bits_above s (r ∷ rs)) (bits_above (suc s) rs)
    (bits_first s r rs e ∙ ap (λ (n : ℕ). 1 + n) (bits_step s (suc r) rs (omega arith) t.1)) in
    rw (bit_up (bits_above s (r ∷ rs)) x, h, occurs_later (s + suc x) r rs (λ k. omega arith))
    (bit_of_lem x (suc s) rs (asc_weaken (omega arith) rs t.1) ∙ ap (λ (n : ℕ). occurs n rs) (omega arith)))
    (λ e.
    let h : bits_above s (r ∷ rs) / 2 ≡ bits_above (suc s) (r ∷ rs) =
    half_even (bits_above s (r ∷ rs)) (bits_above (suc s) (r ∷ rs)) (bits_step s r (r ∷ rs) (omega (arith, t.0)) (le_refl r, t.1)) in
    rw (bit_up (bits_above s (r ∷ rs)) x, h) (bit_of_lem x (suc s) (r ∷ rs) (omega (arith, t.0), t.1) ∙ ap (λ (n : ℕ). occurs n (r ∷ rs)) (omega arith)))

-- bit x of the bitmap
pub bit_is : (x : ℕ) (rs : List ℕ) → Asc 0 rs → bitmap rs / 2 ^ x % 2 ≡ occurs x rs
bit_is x rs t = ap (λ (n : ℕ). n / 2 ^ x % 2) (bitmap_is rs) ∙ bit_of_lem x 0 rs t ∙ ap (λ (n : ℕ). occurs n rs) (zero-add x)

-- one place more
pub count_suc : (x : ℕ) (rs : List ℕ) → count_below (suc x) rs ≡ occurs x rs + count_below x rs
unfolding count_below occurs
count_suc x [] = refl
count_suc x (r ∷ rs) =
    below_or r x
    (λ h. rw (lt-ltb r (suc x) (omega arith), lt-ltb r x h, ne_eqb r x (λ e. omega arith)) (omega (arith, count_suc x rs)))
    (λ h.
    equal_or r x
    (λ e. rw (lt-ltb r (suc x) (omega arith), le-ltb r x h, eq-eqb r x e) (omega (arith, count_suc x rs)))
    (λ e. rw (le-ltb r (suc x) (omega arith), le-ltb r x h, ne_eqb r x e) (omega (arith, count_suc x rs))))

pub count_zero : (rs : List ℕ) → count_below 0 rs ≡ 0
unfolding count_below
count_zero [] = refl
count_zero (r ∷ rs) = rw (le-ltb r 0 zero-le) (omega (arith, count_zero rs))

pub ones_bit : (b : ℕ) → b < 2 → ones b ≡ b
unfolding ones ones_in
ones_bit zero h = refl
ones_bit (suc zero) h = refl
ones_bit (suc (suc b)) h = absurd (omega arith)

pub ones_join : (n a b c : ℕ) → a + b ≡ c → ones (n % 2 ^ c) ≡ ones (n % 2 ^ a) + ones (n / 2 ^ a % 2 ^ b)
ones_join n a b c e =
    ap (λ (k : ℕ). ones (n % 2 ^ k)) (sym e ∙ add_comm a b)
    ∙ ap ones (mod-pow-add n b a) ∙ ones_cat a (n / 2 ^ a % 2 ^ b) (n % 2 ^ a) (mod-lt n (pow_pos a))
    ∙ add_comm (ones (n / 2 ^ a % 2 ^ b)) (ones (n % 2 ^ a))

pub ones_of_none : (n : ℕ) → ones (n % 2 ^ (64 * 0)) ≡ 0
ones_of_none n = ap ones (mod-one n) ∙ ones_bit 0 (lit< tt)

-- the ones below x are the places below x
pub ones_below : (x : ℕ) (rs : List ℕ) → Asc 0 rs → ones (bitmap rs % 2 ^ x) ≡ count_below x rs
ones_below zero rs t = rw (pow-zero, mod-one) (ones_bit 0 (lit< tt) ∙ sym (count_zero rs))
ones_below (suc x) rs t =
    let m : ℕ = bitmap rs in
    let one_more : suc x ≡ 1 + x = omega arith in
    ap (λ (k : ℕ). ones (m % 2 ^ k)) one_more
    ∙ ap ones (mod-pow-add m 1 x)
    ∙ ones_cat x (m / 2 ^ x % 2) (m % 2 ^ x) (mod-lt m (pow_pos x))
    ∙ ap₂ ◌+◌ (ones_bit (m / 2 ^ x % 2) (omega arith) ∙ bit_is x rs t) (ones_below x rs t)
    ∙ sym (count_suc x rs)

-- ---- the ones of consecutive longs, in two parts

pub ones_more : (s : List ℕ) (m a b f : ℕ) → ones_from s m (a + b) f ≡ ones_from s m a f + ones_from s m b (f + a)
unfolding ones_from
ones_more s m zero b f = rw (zero-add, add-zero) (sym (zero-add (ones_from s m b f)))
ones_more s m (suc a) b f =
    let e : suc f + a ≡ f + suc a = omega arith in
    rw suc-add (omega (arith, ones_more s m a b (suc f), ap (ones_from s m b) e))

pub ones_none : (s : List ℕ) (m f : ℕ) → ones_from s m 0 f ≡ 0
unfolding ones_from
ones_none s m f = refl

pub ones_grow : (s : List ℕ) (m a b : ℕ) → ones_from s m (a + b) 0 ≡ ones_from s m a 0 + ones_from s m b a
ones_grow s m a b = ones_more s m a b 0 ∙ ap (λ (x : ℕ). ones_from s m a 0 + ones_from s m b x) (zero-add a)

pub ones_moved : (s : List ℕ) (m x f g : ℕ) → x ≡ ones_from s m f 0 → f ≡ g → x ≡ ones_from s m g 0
ones_moved s m x f g e h = e ∙ ap (λ (y : ℕ). ones_from s m y 0) h
