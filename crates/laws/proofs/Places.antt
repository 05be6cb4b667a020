-- A block's places, ascending: how many there can be, and back from the bits, from a full block and from the shorts. Assumes nothing.
use Rattle.format.specs.Kit.{◌≡◌, refl, sym, ap, ap₂, ◌∙◌, subst, List, [], ◌∷◌, ◌++◌, append_assoc, ℕ, zero, suc, ◌+◌, ◌-◌, ◌*◌, ◌/◌, ◌^◌, ◌<◌}
use Rattle.format.specs.Kit.{◌≤◌, pow-succ', pow-zero, mul-add, le_trans, le_refl, mod-eq_of_lt, arith, lit<, length, get_or, take, drop, take_at}
use Rattle.format.specs.Kit.{drop_at, pow_pos}
use Rattle.format.specs.Bytes.{low, from_low, bytes_of, count_from}
use Rattle.format.specs.Ids.{bitmap}
use Rattle.format.specs.IdsRead.{shorts}
use Rattle.format.specs.Pairs.{Below, Asc}
use Rattle.format.specs.Runs.{bits_above}
use Rattle.laws.proofs.Cases.{equal_or}
use Rattle.laws.proofs.Digits.{length_digits, from_digits_lem}

-- ascending, a or above
pub asc_weaken : {a b : ℕ} → a ≤ b → (rs : List ℕ) → Asc b rs → Asc a rs
asc_weaken h [] t = tt
asc_weaken h (r ∷ rs) t = (le_trans h t.0, t.1)

pub asc_length : (a b : ℕ) (rs : List ℕ) → a ≤ b → Asc a rs → Below b rs → a + length rs ≤ b
asc_length a b [] h t u = omega arith
asc_length a b (r ∷ rs) h t u = omega (arith, asc_length (suc r) b rs u.0 t.1 u.1, t.0)

-- an element stands as many above the first as there are before it, or more
pub asc_from_lem : (a : ℕ) (l : List ℕ) (k : ℕ) → Asc a l → k < length l → a + k ≤ get_or l k 0
asc_from_lem a [] k t h = absurd (omega arith)
asc_from_lem a (x ∷ xs) zero t h = omega (arith, t.0)
asc_from_lem a (x ∷ xs) (suc k) t h = omega (arith, t.0, asc_from_lem (suc x) xs k t.1 (omega arith))

-- an id is above an earlier one by the places between them, or more
pub asc_gap : (a : ℕ) (l : List ℕ) (i k : ℕ) → Asc a l → i ≤ k → k < length l → get_or l i 0 + (k - i) ≤ get_or l k 0
asc_gap a [] i k t h n = absurd (omega arith)
asc_gap a (x ∷ xs) zero k t h n = omega (arith, asc_from_lem x (x ∷ xs) k (omega arith, t.1) n)
asc_gap a (x ∷ xs) (suc i) zero t h n = absurd (omega arith)
asc_gap a (x ∷ xs) (suc i) (suc k) t h n = omega (arith, asc_gap (suc x) xs i k t.1 (omega arith) (omega arith))

-- ---- from the bits

pub bitmap_is : (rs : List ℕ) → bitmap rs ≡ bits_above 0 rs
unfolding bitmap bits_above
bitmap_is [] = refl
bitmap_is (r ∷ rs) = ap₂ (λ (x y : ℕ). 2 ^ x + y) (omega arith) (bitmap_is rs)

pub bits_step : (x a : ℕ) (rs : List ℕ) → suc x ≤ a → Asc a rs → bits_above x rs ≡ 2 * bits_above (suc x) rs
unfolding bits_above
bits_step x a [] h t = refl
bits_step x a (r ∷ rs) h t =
    ap₂ ◌+◌ (ap (λ (e : ℕ). 2 ^ e) (the_power) ∙ pow-succ' 2 (r - suc x)) (bits_step x (suc r) rs (omega (arith, t.0)) t.1)
    ∙ sym (mul-add 2 (2 ^ (r - suc x)) (bits_above (suc x) rs))
  where
    the_power : r - x ≡ suc (r - suc x)
    the_power = omega (arith, t.0)

pub half_odd : (m h : ℕ) → m ≡ 1 + 2 * h → m / 2 ≡ h
half_odd m h e = omega arith

pub half_even : (m h : ℕ) → m ≡ 2 * h → m / 2 ≡ h
half_even m h e = omega arith

pub bits_first : (x r : ℕ) (rs : List ℕ) → r ≡ x → bits_above x (r ∷ rs) ≡ 1 + bits_above x rs
unfolding bits_above
bits_first x r rs e =
    let z : r - x ≡ 0 = omega arith in
    ap (λ (d : ℕ). 2 ^ d + bits_above x rs) z

pub bits_nil : (x : ℕ) → bits_above x [] ≡ 0
unfolding bits_above
bits_nil x = refl

pub below_shift : (x k : ℕ) (rs : List ℕ) → Below (x + suc k) rs → Below (suc x + k) rs
below_shift x k rs u = subst (λ (b : ℕ). Below b rs) (omega arith) u

-- ---- from a full block

pub all_places : (k a : ℕ) (rs : List ℕ) → Asc a rs → Below (a + k) rs → length rs ≡ k → rs ≡ count_from k a
unfolding count_from
all_places zero a [] t u e = refl
all_places zero a (r ∷ rs) t u e = absurd (omega arith)
all_places (suc k) a [] t u e = absurd (omega arith)
all_places (suc k) a (r ∷ rs) t u e =
    let l : suc r + length rs ≤ a + suc k = asc_length (suc r) (a + suc k) rs u.0 t.1 u.1 in
    let s : r ≡ a = omega (arith, t.0) in
    ap₂ {C = List ℕ} (λ (b : ℕ) (l : List ℕ). b ∷ l) s
    (all_places k (suc a) rs (subst (λ (b : ℕ). Asc (suc b) rs) s t.1) (below_shift a k rs u.1) (omega arith))

-- ---- from the shorts

pub short_back : (x : ℕ) → x < 65536 → from_low (low 2 x) ≡ x
short_back x h = from_digits_lem 256 2 x (lit< tt) ∙ mod-eq_of_lt h

pub take_low : (k x : ℕ) (l : List ℕ) → take k (low k x ++ l) ≡ low k x
take_low k x l = take_at (low k x) l k (length_digits 256 k x)

pub drop_low : (k x : ℕ) (l : List ℕ) → drop k (low k x ++ l) ≡ l
drop_low k x l = drop_at (low k x) l k (length_digits 256 k x)

pub shorts_back : (rs rest : List ℕ) → Below 65536 rs → shorts (length rs) (bytes_of (low 2) rs ++ rest) ≡ rs
unfolding shorts bytes_of
shorts_back [] rest u = refl
shorts_back (r ∷ rs) rest u =
    rw (append_assoc (low 2 r) (bytes_of (low 2) rs) rest)
    (ap₂ {C = List ℕ} (λ (b : ℕ) (l : List ℕ). b ∷ l)
    (ap from_low (take_low 2 r (bytes_of (low 2) rs ++ rest)) ∙ short_back r u.0)
    (ap (shorts (length rs)) (drop_low 2 r (bytes_of (low 2) rs ++ rest)) ∙ shorts_back rs rest u.1))

-- the number of places below x + k, from x on, has k bits
pub bits_lt : (k x : ℕ) (rs : List ℕ) → Asc x rs → Below (x + k) rs → bits_above x rs < 2 ^ k
bits_lt zero x [] t u = rw (bits_nil, pow-zero) (lit< tt)
bits_lt zero x (r ∷ rs) t u = absurd (omega (arith, t.0, u.0))
bits_lt (suc k) x [] t u = rw bits_nil (pow_pos (suc k))
bits_lt (suc k) x (r ∷ rs) t u =
    equal_or r x
    (λ e.
    omega (
      arith,
      bits_first x r rs e,
      bits_step x (suc r) rs (omega arith) t.1,
      bits_lt k (suc x) rs (asc_weaken (omega arith) rs t.1) (below_shift x k rs u.1),
      pow-succ' 2 k,
    ))
    (λ e.
    omega (
      arith,
      bits_step x r (r ∷ rs) (omega (arith, t.0)) (le_refl r, t.1),
      bits_lt k (suc x) (r ∷ rs) (omega (arith, t.0), t.1) (below_shift x k (r ∷ rs) u),
      pow-succ' 2 k,
    ))
