-- Signed 64-bit numbers: `Fits` by the size, their header numbers, and that the smallest and the greatest value are such numbers.
-- Assumes nothing.
use Rattle.format.specs.Kit.{◌≡◌, List, [], ◌∷◌, ℕ, suc, ◌+◌, ◌-◌, ◌*◌, ◌/◌, ◌%◌, ◌^◌, ◌<◌, ◌≤◌, arith, lit<, ℤ, pos, negsuc, mag, eq-eqb, ne_eqb}
use Rattle.format.specs.Kit.{ltb-true, lt-ltb, le-ltb}
use Rattle.format.specs.Bytes.{twos, untwos}
use Rattle.format.specs.HeaderNumbers.{zigzag, unzigzag}
use Rattle.format.specs.Values.{smallest, greatest}
use Rattle.format.specs.Pairs.{Each, Fits}
use Rattle.laws.proofs.Cases.{below_or, equal_or}
use Rattle.laws.proofs.Values.{least_has, most_has}

pub fits_size : (v : ℤ) → Fits v → mag v < 2 ^ 63
unfolding Fits
fits_size v f = ltb-true (mag v) (2 ^ 63) f

pub size_fits : (v : ℤ) → mag v < 2 ^ 63 → Fits v
unfolding Fits
size_fits v h = lt-ltb (mag v) (2 ^ 63) h

-- ---- header numbers

pub unzigzag_even : (x : ℕ) → x % 2 ≡ 0 → unzigzag x ≡ pos (x / 2)
unzigzag_even x h = rw (eq-eqb (x % 2) 0)

pub unzigzag_odd : (x : ℕ) → (x % 2 ≡ 0 → ⊥) → unzigzag x ≡ negsuc (x / 2)
unzigzag_odd x h = rw (ne_eqb (x % 2) 0)

pub zigzag_unzigzag : (x : ℕ) → zigzag (unzigzag x) ≡ x
zigzag_unzigzag x =
    equal_or (x % 2) 0
    (λ e. rw (unzigzag_even x e) (omega arith))
    (λ e. rw (unzigzag_odd x e) (omega arith))

pub unzigzag_zigzag : (z : ℤ) → unzigzag (zigzag z) ≡ z
unzigzag_zigzag (pos n) = let e : 2 * n % 2 ≡ 0 = omega arith in let d : 2 * n / 2 ≡ n = omega arith in rw (unzigzag_even (2 * n) e, d)
unzigzag_zigzag (negsuc n) =
    let e : (2 * n + 1) % 2 ≡ 0 → ⊥ = λ q. omega arith in
    let d : (2 * n + 1) / 2 ≡ n = omega arith in
    rw (unzigzag_odd (2 * n + 1) e, d)

pub zigzag_lt : (v : ℤ) → Fits v → zigzag v < 2 ^ 64
zigzag_lt (pos n) h = omega (arith, fits_size (pos n) h)
zigzag_lt (negsuc n) h = omega (arith, fits_size (negsuc n) h)

pub unzigzag_fits : (x : ℕ) → x < 2 ^ 64 → Fits (unzigzag x)
unzigzag_fits x h =
    size_fits (unzigzag x)
    (equal_or (x % 2) 0 (λ e. rw (unzigzag_even x e) (omega arith)) (λ e. rw (unzigzag_odd x e) (omega arith)))

-- ---- two's complement

pub untwos_low : (x : ℕ) → x < 2 ^ 63 → untwos x ≡ pos x
unfolding untwos
untwos_low x h = rw (lt-ltb x (2 ^ 63) h)

pub untwos_high : (x : ℕ) → 2 ^ 63 ≤ x → untwos x ≡ negsuc (2 ^ 64 - suc x)
unfolding untwos
untwos_high x h = rw (le-ltb x (2 ^ 63) h)

pub twos_lt : (v : ℤ) → Fits v → twos v < 2 ^ 64
unfolding twos
twos_lt (pos n) h = omega (arith, fits_size (pos n) h)
twos_lt (negsuc n) h = omega arith

pub untwos_twos : (v : ℤ) → Fits v → untwos (twos v) ≡ v
unfolding twos
untwos_twos (pos n) h = untwos_low n (fits_size (pos n) h)
untwos_twos (negsuc n) h =
    let small : n < 2 ^ 63 = fits_size (negsuc n) h in
    let back : 2 ^ 64 - suc (2 ^ 64 - suc n) ≡ n = omega arith in
    rw (untwos_high (2 ^ 64 - suc n) (omega arith), back)

pub twos_untwos : (x : ℕ) → x < 2 ^ 64 → twos (untwos x) ≡ x
unfolding twos
twos_untwos x h =
    below_or x (2 ^ 63)
    (λ l. rw (untwos_low x l))
    (λ l. rw (untwos_high x l) (omega arith))

pub untwos_fits : (x : ℕ) → x < 2 ^ 64 → Fits (untwos x)
untwos_fits x h =
    size_fits (untwos x)
    (below_or x (2 ^ 63) (λ l. rw (untwos_low x l) l) (λ l. rw (untwos_high x l) (omega arith)))

-- ---- of a list

pub smallest_fits : (vs : List ℤ) → Each Fits vs → Fits (smallest vs)
unfolding smallest
smallest_fits [] t = size_fits (pos 0) (lit< tt)
smallest_fits (v ∷ vs) t = least_has Fits v vs t.0 t.1

pub greatest_fits : (vs : List ℤ) → Each Fits vs → Fits (greatest vs)
unfolding greatest
greatest_fits [] t = size_fits (pos 0) (lit< tt)
greatest_fits (v ∷ vs) t = most_has Fits v vs t.0 t.1
