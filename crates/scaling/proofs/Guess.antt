-- A quotient guessed by a product, and the room that products have. Assumes nothing.
use Rattle.format.specs.Kit.{◌≡◌, refl, sym, ap, ◌∙◌, Bool, true, false, ℕ, ◌*◌, ◌/◌, ◌%◌, ◌^◌, ◌≤◌, ◌<◌, mul-one, mul_assoc, mul_comm}
use Rattle.format.specs.Kit.{mul-le-mul, mul-le-mul_right, mul-le-mul_left, le-div_iff_mul-le, div-lt_iff_lt-mul, leb}
use Rattle.format.specs.Kit.{leb-true, leb-false, le-leb, lt-leb, arith, mul-div_cancel_left}
use Rattle.format.specs.Values.{gcd}
use Rattle.laws.proofs.Gcd.{gcd_multiple}
use Rattle.scaling.specs.Reciprocal.{Reciprocal}

-- d times a guess
pub guess_fits : (x m d : ℕ) → Reciprocal d m → x % 2 ^ 32 * (m % 2 ^ 32) / 2 ^ 32 * d < 2 ^ 64
guess_fits x m d p =
    let y : ℕ = x % 4294967296 in
    let k : ℕ = m % 4294967296 in
    let q : ℕ = y * k / 4294967296 in
    let a : q * 4294967296 * d ≤ y * k * d = mul-le-mul_right d (omega arith) in
    let b : k * d ≤ m * d = mul-le-mul_right d (omega arith) in
    let c : y * (k * d) ≤ y * 8589934592 = mul-le-mul_left y (omega (arith, p.product)) in
    let e : y * k * d ≡ y * (k * d) = mul_assoc y k d in
    let f : q * 4294967296 * d ≡ q * d * 4294967296 =
    mul_assoc q 4294967296 d ∙ ap (λ (z : ℕ). q * z) (mul_comm 4294967296 d) ∙ sym (mul_assoc q d 4294967296) in
    omega arith

pub reciprocal_zero : Reciprocal 0 0
reciprocal_zero = record { product = omega arith }

-- 1 is what it makes with any number
pub gcd_of_one : (g x : ℕ) → g ≡ 1 → 1 ≡ gcd g x
gcd_of_one g x e = gcd_multiple 1 x x (sym (mul-one x)) ∙ ap (λ (h : ℕ). gcd h x) (sym e)

-- a guess that is the quotient
pub guess_is : (q d x : ℕ) → 0 < d → q * d ≡ x → q ≡ x / d
guess_is q d x p e = sym (ap (λ (y : ℕ). y / d) (sym e ∙ mul_comm q d) ∙ mul-div_cancel_left q p)

-- ---- a product's room

-- two numbers below 2^32
pub product_lt : (a b : ℕ) → a < 4294967296 → b < 4294967296 → a * b < 18446744073709551616
product_lt a b ha hb = omega (arith, mul-le-mul {n₁ = a} {m₁ = b} {n₂ = 4294967295} {m₂ = 4294967295} (omega arith) (omega arith))

pub leb_over : (x d n : ℕ) → 0 < d → leb x (n / d) ≡ leb (x * d) n
leb_over x d n p = go (leb x (n / d)) refl
  where
    go : (t : Bool) → leb x (n / d) ≡ t → t ≡ leb (x * d) n
    go true e = sym (le-leb (x * d) n ((le-div_iff_mul-le p).0 (leb-true x (n / d) e)))
    go false e = sym (lt-leb (x * d) n ((div-lt_iff_lt-mul p).0 (leb-false x (n / d) e)))
