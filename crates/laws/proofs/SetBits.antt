-- The set bits of a number: one after the other, in two parts, and as the places of a bitmap. Assumes nothing.
use Rattle.format.specs.Kit.{◌≡◌, refl, sym, ap, ap₂, ◌∙◌, List, [], ◌∷◌, ◌++◌, ℕ, zero, suc, ◌+◌, ◌*◌, ◌/◌, ◌%◌, ◌^◌, ◌<◌, ◌≤◌, pow-succ'}
use Rattle.format.specs.Kit.{pow-zero, le_refl, div-one, div-div-eq-div-mul, add-zero, zero-add, suc-add, mul_assoc, arith}
use Rattle.format.specs.Ids.{bitmap}
use Rattle.format.specs.IdsRead.{set_bits}
use Rattle.format.specs.Pairs.{Below, Asc}
use Rattle.format.specs.Runs.{bits_above}
use Rattle.laws.proofs.Cases.{equal_or}
use Rattle.laws.proofs.Places.{asc_weaken, below_shift, bitmap_is, bits_step, bits_first, bits_nil, half_odd, half_even}

pub set_one : (k x m : ℕ) → m % 2 ≡ 1 → set_bits (suc k) x m ≡ x ∷ set_bits k (suc x) (m / 2)
unfolding set_bits
set_one k x m e = rw e

pub set_none : (k x m : ℕ) → m % 2 ≡ 0 → set_bits (suc k) x m ≡ set_bits k (suc x) (m / 2)
unfolding set_bits
set_none k x m e = rw e

pub set_end_lem : (x m : ℕ) → set_bits zero x m ≡ []
unfolding set_bits
set_end_lem x m = refl

pub odd_or : {X : Type 0} (m : ℕ) → (m % 2 ≡ 1 → X) → (m % 2 ≡ 0 → X) → X
odd_or m f g = equal_or (m % 2) 1 f (λ h. g (omega arith))

pub set_zero : (k x : ℕ) → set_bits k x 0 ≡ []
set_zero zero x = set_end_lem x 0
set_zero (suc k) x = set_none k x 0 refl ∙ set_zero k (suc x)

-- ---- in two parts

pub set_append : (a b x m : ℕ) → set_bits (a + b) x m ≡ set_bits a x m ++ set_bits b (x + a) (m / 2 ^ a)
set_append zero b x m = rw (zero-add, pow-zero, div-one, add-zero, set_end_lem) refl
set_append (suc a) b x m =
    let e : suc x + a ≡ x + suc a = omega arith in
    let q : m / 2 / 2 ^ a ≡ m / 2 ^ suc a = div-div-eq-div-mul m 2 (2 ^ a) ∙ ap (λ (d : ℕ). m / d) (sym (pow-succ' 2 a)) in
    let ih : set_bits (a + b) (suc x) (m / 2) ≡ set_bits a (suc x) (m / 2) ++ set_bits b (x + suc a) (m / 2 ^ suc a) =
    set_append a b (suc x) (m / 2) ∙ ap₂ (λ (y z : ℕ). set_bits a (suc x) (m / 2) ++ set_bits b y z) e q in
    rw suc-add
    (odd_or m
    (λ h. rw (set_one (a + b) x m h, set_one a x m h) (ap {B = List ℕ} (λ (l : List ℕ). x ∷ l) ih))
    (λ h. rw (set_none (a + b) x m h, set_none a x m h) ih))

-- only the low bits count
pub set_low : (a x r q : ℕ) → set_bits a x (r + 2 ^ a * q) ≡ set_bits a x r
set_low zero x r q = set_end_lem x (r + 2 ^ zero * q) ∙ sym (set_end_lem x r)
set_low (suc a) x r q =
    let w : r + 2 ^ suc a * q ≡ r + 2 * (2 ^ a * q) = low_twice a r q in
    let h : (r + 2 * (2 ^ a * q)) / 2 ≡ r / 2 + 2 ^ a * q = omega arith in
    let ih : set_bits a (suc x) ((r + 2 * (2 ^ a * q)) / 2) ≡ set_bits a (suc x) (r / 2) = ap (set_bits a (suc x)) h ∙ set_low a (suc x) (r / 2) q in
    ap (set_bits (suc a) x) w
    ∙ odd_or r
    (λ o. set_one a x (r + 2 * (2 ^ a * q)) (omega arith) ∙ ap {B = List ℕ} (λ (l : List ℕ). x ∷ l) ih ∙ sym (set_one a x r o))
    (λ o. set_none a x (r + 2 * (2 ^ a * q)) (omega arith) ∙ ih ∙ sym (set_none a x r o))
  where
    low_twice : (a r q : ℕ) → r + 2 ^ suc a * q ≡ r + 2 * (2 ^ a * q)
    low_twice a r q = ap (λ (d : ℕ). r + d * q) (pow-succ' 2 a) ∙ ap (λ (d : ℕ). r + d) (mul_assoc 2 (2 ^ a) q)

-- ---- as places

pub set_asc : (k x m : ℕ) → Asc x (set_bits k x m)
set_asc zero x m = rw set_end_lem tt
set_asc (suc k) x m =
    odd_or m
    (λ e. rw (set_one k x m e) (le_refl x, set_asc k (suc x) (m / 2)))
    (λ e. rw (set_none k x m e) (asc_weaken (omega arith) (set_bits k (suc x) (m / 2)) (set_asc k (suc x) (m / 2))))

pub set_below : (k x m b : ℕ) → x + k ≤ b → Below b (set_bits k x m)
set_below zero x m b h = rw set_end_lem tt
set_below (suc k) x m b h =
    odd_or m
    (λ e. rw (set_one k x m e) (omega arith, set_below k (suc x) (m / 2) b (omega arith)))
    (λ e. rw (set_none k x m e) (set_below k (suc x) (m / 2) b (omega arith)))

set_back : (k x m : ℕ) → m < 2 ^ k → bits_above x (set_bits k x m) ≡ m
set_back zero x m h = rw (set_end_lem, bits_nil) (omega (arith, pow-zero 2))
set_back (suc k) x m h =
    let ih : bits_above (suc x) (set_bits k (suc x) (m / 2)) ≡ m / 2 = set_back k (suc x) (m / 2) (omega (arith, pow-succ' 2 k)) in
    let st : bits_above x (set_bits k (suc x) (m / 2)) ≡ 2 * bits_above (suc x) (set_bits k (suc x) (m / 2)) =
    bits_step x (suc x) (set_bits k (suc x) (m / 2)) (le_refl (suc x)) (set_asc k (suc x) (m / 2)) in
    odd_or m
    (λ e. rw (set_one k x m e) (bits_first x x (set_bits k (suc x) (m / 2)) refl ∙ omega arith))
    (λ e. rw (set_none k x m e) (omega arith))

pub bitmap_set : (m : ℕ) → m < 2 ^ 65536 → bitmap (set_bits 65536 0 m) ≡ m
bitmap_set m h = bitmap_is (set_bits 65536 0 m) ∙ set_back 65536 0 m h

-- the set bits of the places' number are the places
pub bits_back : (k x : ℕ) (rs : List ℕ) → Asc x rs → Below (x + k) rs → set_bits k x (bits_above x rs) ≡ rs
bits_back zero x [] t u = set_end_lem x (bits_above x [])
bits_back zero x (r ∷ rs) t u = absurd (omega (arith, t.0, u.0))
bits_back (suc k) x [] t u =
    rw bits_nil (set_none k x 0 refl ∙ ap (set_bits k (suc x)) (sym (bits_nil (suc x))) ∙ bits_back k (suc x) [] tt tt)
bits_back (suc k) x (r ∷ rs) t u =
    equal_or r x
    (λ e.
    let s : bits_above x (r ∷ rs) ≡ 1 + 2 * bits_above (suc x) rs =
    bits_first x r rs e ∙ ap (λ (n : ℕ). 1 + n) (bits_step x (suc r) rs (omega arith) t.1) in
    set_one k x (bits_above x (r ∷ rs)) (omega arith)
    ∙ ap₂ {C = List ℕ} (λ (a : ℕ) (l : List ℕ). a ∷ l) (sym e)
    (ap (set_bits k (suc x)) (half_odd (bits_above x (r ∷ rs)) (bits_above (suc x) rs) s)
    ∙ bits_back k (suc x) rs (asc_weaken (omega arith) rs t.1) (below_shift x k rs u.1)))
    (λ e.
    let s : bits_above x (r ∷ rs) ≡ 2 * bits_above (suc x) (r ∷ rs) =
    bits_step x r (r ∷ rs) (omega (arith, t.0)) (le_refl r, t.1) in
    set_none k x (bits_above x (r ∷ rs)) (omega arith)
    ∙ ap (set_bits k (suc x)) (half_even (bits_above x (r ∷ rs)) (bits_above (suc x) (r ∷ rs)) s)
    ∙ bits_back k (suc x) (r ∷ rs) (omega (arith, t.0), t.1) (below_shift x k (r ∷ rs) u))
