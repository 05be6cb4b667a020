-- The ones of consecutive longs: the turns of a loop over them, four at once, and the longs of a stride. Assumes nothing.
use Rattle.format.specs.Kit.{◌≡◌, sym, ap, ap₂, ◌∙◌, List, ℕ, suc, ◌+◌, ◌-◌, ◌*◌, ◌^◌, ◌<◌, ◌≤◌, add-zero, pow-add, arith, ones_in}
use Rattle.format.specs.Bytes.{low_at}
use Rattle.format.specs.LookUp.{ones_from}

pub ones_on : (s : List ℕ) (m n i first : ℕ) → i < n
    → ones_from s m (n - i) (first + i) ≡ ones_in 64 (low_at 8 s (m + 8 * (first + i))) + ones_from s m (n - (i + 1)) (first + (i + 1))
unfolding ones_from
ones_on s m n i first h =
    let e : n - i ≡ suc (n - (i + 1)) = omega arith in
    let f : suc (first + i) ≡ first + (i + 1) = omega arith in
    rw e (ap (λ (x : ℕ). ones_in 64 (low_at 8 s (m + 8 * (first + i))) + ones_from s m (n - (i + 1)) x) f)

pub ones_end : (s : List ℕ) (m n i first : ℕ) → n ≤ i → ones_from s m (n - i) first ≡ 0
unfolding ones_from
ones_end s m n i first h =
    let e : n - i ≡ 0 = omega arith in
    rw e

pub ones_begin : (s : List ℕ) (m n first : ℕ) → ones_from s m (n - 0) (first + 0) ≡ ones_from s m n first
ones_begin s m n first =
    let e : n - 0 ≡ n = omega arith in
    ap₂ (λ (x y : ℕ). ones_from s m x y) e (add-zero first)

-- the ones of long i
abbrev pub ones_at : List ℕ → ℕ → ℕ → ℕ
ones_at s m i = ones_in 64 (low_at 8 s (m + 8 * i))

pub ones_four : (s : List ℕ) (m f : ℕ) → ones_at s m f + ones_at s m (f + 1) + ones_at s m (f + 2) + ones_at s m (f + 3) ≡ ones_from s m 4 f
ones_four s m f =
    let z : ones_at s m (f + 0) ≡ ones_at s m f = ap (ones_at s m) (add-zero f) in
    omega (
      arith,
      z,
      ones_begin s m 4 f,
      ones_on s m 4 0 f (omega arith),
      ones_on s m 4 1 f (omega arith),
      ones_on s m 4 2 f (omega arith),
      ones_on s m 4 3 f (omega arith),
      ones_end s m 4 4 (f + 4) (omega arith),
    )

-- ---- how many longs a stride has

pub stride_at : (q p : ℕ) → p ≡ q → 2 ^ (q - 6) ≡ 2 ^ (p - 6)
stride_at q p e = ap (λ (x : ℕ). 2 ^ (x - 6)) (sym e)

pub stride_fours : (p : ℕ) → 8 ≤ p → 4 * 2 ^ (p - 8) ≡ 2 ^ (p - 6)
stride_fours p h =
    let e : 2 + (p - 8) ≡ p - 6 = omega arith in
    sym (pow-add 2 2 (p - 8)) ∙ ap (λ (x : ℕ). 2 ^ x) e
