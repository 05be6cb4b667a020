-- The greatest common divisor: what makes it one, Euclid's step, and the divisor of a list of numbers, whatever they are taken from.
-- Assumes nothing.
use Rattle.format.specs.Kit.{◌≡◌, refl, sym, ap, ◌∙◌, subst, List, [], ◌∷◌, map, ℕ, zero, suc, ◌+◌, ◌-◌, ◌*◌, ◌/◌, ◌%◌, ◌<◌, ◌∣◌, mod-lt}
use Rattle.format.specs.Kit.{zero-lt-suc, dvd_refl, dvd-zero, dvd_trans, dvd-sub, dvd-mod_iff, dvd_antisymm, dvd-mul_left, dvd-mul_right_of_dvd}
use Rattle.format.specs.Kit.{one-dvd, mul-add, mul_comm, mul_assoc, div-add-mod', mul-dvd-mul_left, arith, ℤ}
use Rattle.format.specs.Values.{gcd_in, gcd, gcd_from}
use Rattle.format.specs.Pairs.{Each}

-- ---- two numbers

-- it divides both, and every number that does so divides it
pub record IsGcd (a b g : ℕ) : Type 0 where
  pub left : g ∣ a
  pub right : g ∣ b
  pub great : (d : ℕ) → d ∣ a → d ∣ b → d ∣ g

pub gcd_unique : {a b g h : ℕ} → IsGcd a b g → IsGcd a b h → g ≡ h
gcd_unique {g} {h} p q = dvd_antisymm (q.great g p.left p.right) (p.great h q.left q.right)

-- of b and what a leaves by b, so of a and b
is_step : {a b g : ℕ} → IsGcd b (a % b) g → IsGcd a b g
is_step r =
    record { left = (dvd-mod_iff _ r.left).0 r.right; right = r.left; great = λ d p q. r.great d q ((dvd-mod_iff _ q).1 p) }

is_in_lem : (f a b : ℕ) → b < f → IsGcd a b (gcd_in f a b)
unfolding gcd_in
is_in_lem zero a b h = absurd (omega arith)
is_in_lem (suc f) a zero h = record { left = dvd_refl a; right = dvd-zero a; great = λ d p q. p }
is_in_lem (suc f) a (suc b) h = is_step (is_in_lem f (suc b) (a % suc b) (omega (arith, mod-lt a (zero-lt-suc b))))

pub gcd_is : (a b : ℕ) → IsGcd a b (gcd a b)
unfolding gcd
gcd_is a b = is_in_lem (suc b) a b (omega arith)

pub gcd_zero : (a : ℕ) → gcd a 0 ≡ a
unfolding gcd gcd_in
gcd_zero a = refl

pub gcd_step : (a b : ℕ) → gcd a b ≡ gcd b (a % b)
gcd_step a b = gcd_unique (gcd_is a b) (is_step (gcd_is b (a % b)))

pub gcd_comm : (a b : ℕ) → gcd a b ≡ gcd b a
gcd_comm a b =
    let g = gcd_is b a in
    gcd_unique (gcd_is a b) (record { left = g.right; right = g.left; great = λ d p q. g.great d q p })

one_gcd : (b : ℕ) → gcd 1 b ≡ 1
one_gcd b = dvd_antisymm (gcd_is 1 b).left (one-dvd (gcd 1 b))

-- a divisor of x is the greatest common divisor of both
pub gcd_multiple : (g x q : ℕ) → x ≡ q * g → g ≡ gcd g x
gcd_multiple g x q e =
    gcd_unique (record { left = dvd_refl g; right = subst (λ (y : ℕ). g ∣ y) (sym e) (dvd-mul_left g q); great = λ k a b. a }) (gcd_is g x)

-- ---- their multiples by g

-- what divides the multiples of two numbers divides that of what the first leaves by the second
dvd_left_over : (k g a b : ℕ) → k ∣ g * a → k ∣ g * b → k ∣ g * (a % b)
dvd_left_over k g a b p q =
    let e : g * (a / b * b) + g * (a % b) ≡ g * a = sym (mul-add g (a / b * b) (a % b)) ∙ ap (λ (n : ℕ). g * n) (div-add-mod' a b) in
    let f : g * (a / b * b) ≡ g * b * (a / b) = ap (λ (n : ℕ). g * n) (mul_comm (a / b) b) ∙ sym (mul_assoc g b (a / b)) in
    let r : k ∣ g * (a / b * b) = subst (λ (n : ℕ). k ∣ n) (sym f) (dvd-mul_right_of_dvd k q (a / b)) in
    let t : g * a - g * (a / b * b) ≡ g * (a % b) = omega arith in
    subst (λ (n : ℕ). k ∣ n) t (dvd-sub k p r)

scaled_in : (f k g a b : ℕ) → b < f → k ∣ g * a → k ∣ g * b → k ∣ g * gcd_in f a b
unfolding gcd_in
scaled_in zero k g a b h p q = absurd (omega arith)
scaled_in (suc f) k g a zero h p q = p
scaled_in (suc f) k g a (suc b) h p q =
    scaled_in f k g (suc b) (a % suc b) (omega (arith, mod-lt a (zero-lt-suc b))) q (dvd_left_over k g a (suc b) p q)

-- and so that of their greatest common divisor
dvd_scaled_gcd : (k g a b : ℕ) → k ∣ g * a → k ∣ g * b → k ∣ g * gcd a b
unfolding gcd
dvd_scaled_gcd k g a b p q = scaled_in (suc b) k g a b (omega arith) p q

-- ---- a list of numbers

abbrev pub DividesEach : ℕ → List ℕ → Type 0
DividesEach k [] = Unit {0}
DividesEach k (x ∷ xs) = (k ∣ x) × DividesEach k xs

pub gcd_From_first : (d : ℕ) (xs : List ℕ) → gcd_from d xs ∣ d
unfolding gcd_from
gcd_From_first d [] = dvd_refl d
gcd_From_first d (x ∷ xs) = dvd_trans (gcd_from (gcd d x) xs) (gcd_From_first (gcd d x) xs) (gcd_is d x).left

pub gcd_From_each : (d : ℕ) (xs : List ℕ) → DividesEach (gcd_from d xs) xs
unfolding gcd_from
gcd_From_each d [] = tt
gcd_From_each d (x ∷ xs) =
    (dvd_trans (gcd_from (gcd d x) xs) (gcd_From_first (gcd d x) xs) (gcd_is d x).right, gcd_From_each (gcd d x) xs)

pub dvd_gcd_from : (k d : ℕ) (xs : List ℕ) → k ∣ d → DividesEach k xs → k ∣ gcd_from d xs
unfolding gcd_from
dvd_gcd_from k d [] p t = p
dvd_gcd_from k d (x ∷ xs) p t = dvd_gcd_from k (gcd d x) xs ((gcd_is d x).great k p t.0) t.1

dvd_scaled_gcd_from : (k g d : ℕ) (xs : List ℕ) → k ∣ g * d → DividesEach k (map (λ x. g * x) xs) → k ∣ g * gcd_from d xs
unfolding gcd_from
dvd_scaled_gcd_from k g d [] p t = p
dvd_scaled_gcd_from k g d (x ∷ xs) p t = dvd_scaled_gcd_from k g (gcd d x) xs (dvd_scaled_gcd k g d x p t.0) t.1

scaled_each : (g k : ℕ) (xs : List ℕ) → DividesEach k xs → DividesEach (g * k) (map (λ x. g * x) xs)
scaled_each g k [] t = tt
scaled_each g k (x ∷ xs) t = (mul-dvd-mul_left k g t.0, scaled_each g k xs t.1)

-- of the multiples by g: the multiple
pub gcd_From_scaled : (g d : ℕ) (xs : List ℕ) → gcd_from (g * d) (map (λ x. g * x) xs) ≡ g * gcd_from d xs
gcd_From_scaled g d xs =
    let k : ℕ = gcd_from d xs in
    let l : List ℕ = map (λ x. g * x) xs in
    dvd_antisymm
    (dvd_scaled_gcd_from (gcd_from (g * d) l) g d xs (gcd_From_first (g * d) l) (gcd_From_each (g * d) l))
    (dvd_gcd_from (g * k) (g * d) l (mul-dvd-mul_left k g (gcd_From_first d xs)) (scaled_each g k xs (gcd_From_each d xs)))

-- nothing but 1 can follow 1
pub gcd_From_one : (xs : List ℕ) → gcd_from 1 xs ≡ 1
unfolding gcd_from
gcd_From_one [] = refl
gcd_From_one (x ∷ xs) = rw (one_gcd x) (gcd_From_one xs)

-- ---- a number for each value

module _ (k : ℕ) (f : ℤ → ℕ) where
  pub each_value : (vs : List ℤ) → DividesEach k (map f vs) → Each (λ v. k ∣ f v) vs
  each_value [] t = tt
  each_value (v ∷ vs) t = (t.0, each_value vs t.1)

  pub each_number : (vs : List ℤ) → Each (λ v. k ∣ f v) vs → DividesEach k (map f vs)
  each_number [] t = tt
  each_number (v ∷ vs) t = (t.0, each_number vs t.1)
