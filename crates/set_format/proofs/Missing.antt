-- The missing places of a block: they ascend, they are as many as are left, and the missing ones of them are the places. Assumes nothing.
use Rattle.format.specs.Kit.{List, [], ◌+◌, ◌<◌, ◌∙◌, ◌∷◌, ◌≡◌, ◌≤◌, ap, ap₂, arith, eq-eqb, le-ltb, le_refl, length, lt-ltb, ne_eqb, not, refl, suc, sym}
use Rattle.format.specs.Kit.{true, zero, ℕ}
use Rattle.format.specs.Ids.{count_below}
use Rattle.format.specs.Pairs.{Asc, Below}
use Rattle.format.specs.SetBytes.{begins, missing, past}
use Rattle.format.specs.Walk.{listed}
use Rattle.laws.proofs.Cases.{below_or, equal_or}
use Rattle.laws.proofs.Place.{listed_higher}
use Rattle.laws.proofs.Places.{asc_weaken, below_shift}

-- ---- its equations

pub missing_end : (x : ℕ) (rs : List ℕ) → missing zero x rs ≡ []
unfolding missing
missing_end x rs = refl

pub missing_none : (k x : ℕ) → missing (suc k) x [] ≡ x ∷ missing k (suc x) []
unfolding missing begins past
missing_none k x = refl

pub missing_hit : (k x r : ℕ) (rs : List ℕ) → r ≡ x → missing (suc k) x (r ∷ rs) ≡ missing k (suc x) rs
unfolding missing begins past
missing_hit k x r rs e = rw (eq-eqb r x e)

pub missing_skip : (k x r : ℕ) (rs : List ℕ) → (r ≡ x → ⊥) → missing (suc k) x (r ∷ rs) ≡ x ∷ missing k (suc x) (r ∷ rs)
unfolding missing begins past
missing_skip k x r rs e = rw (ne_eqb r x e)

-- ---- they ascend, and are places

pub missing_asc : (k x : ℕ) (rs : List ℕ) → Asc x (missing k x rs)
missing_asc zero x rs = rw missing_end tt
missing_asc (suc k) x [] = rw missing_none (le_refl x, missing_asc k (suc x) [])
missing_asc (suc k) x (r ∷ rs) =
    equal_or r x
    (λ e. rw (missing_hit k x r rs e) (asc_weaken (omega arith) (missing k (suc x) rs) (missing_asc k (suc x) rs)))
    (λ e. rw (missing_skip k x r rs e) (le_refl x, missing_asc k (suc x) (r ∷ rs)))

pub missing_below : (k x b : ℕ) (rs : List ℕ) → x + k ≤ b → Below b (missing k x rs)
missing_below zero x b rs h = rw missing_end tt
missing_below (suc k) x b [] h = rw missing_none (omega arith, missing_below k (suc x) b [] (omega arith))
missing_below (suc k) x b (r ∷ rs) h =
    equal_or r x
    (λ e. rw (missing_hit k x r rs e) (missing_below k (suc x) b rs (omega arith)))
    (λ e. rw (missing_skip k x r rs e) (omega arith, missing_below k (suc x) b (r ∷ rs) (omega arith)))

-- ---- how many

pub missing_length : (k x : ℕ) (rs : List ℕ) → Asc x rs → Below (x + k) rs → length rs + length (missing k x rs) ≡ k
missing_length zero x [] t u = rw missing_end refl
missing_length zero x (r ∷ rs) t u = absurd (omega (arith, t.0, u.0))
missing_length (suc k) x [] t u = rw missing_none (omega (arith, missing_length k (suc x) [] tt tt))
missing_length (suc k) x (r ∷ rs) t u =
    equal_or r x
    (λ e.
    rw (missing_hit k x r rs e)
    (omega (arith, missing_length k (suc x) rs (asc_weaken (omega arith) rs t.1) (below_shift x k rs u.1))))
    (λ e.
    rw (missing_skip k x r rs e)
    (omega (arith, missing_length k (suc x) (r ∷ rs) (omega (arith, t.0), t.1) (below_shift x k (r ∷ rs) u))))

-- ---- back

-- the missing ones of a list that starts later begin with x
from_later : (k x : ℕ) (ms : List ℕ) → Asc (suc x) ms → missing (suc k) x ms ≡ x ∷ missing k (suc x) ms
from_later k x [] t = missing_none k x
from_later k x (m ∷ ms) t = missing_skip k x m ms (λ e. omega (arith, t.0))

pub missing_back : (k x : ℕ) (rs : List ℕ) → Asc x rs → Below (x + k) rs → missing k x (missing k x rs) ≡ rs
missing_back zero x [] t u = missing_end x (missing zero x [])
missing_back zero x (r ∷ rs) t u = absurd (omega (arith, t.0, u.0))
missing_back (suc k) x [] t u =
    ap (missing (suc k) x) (missing_none k x)
    ∙ missing_hit k x x (missing k (suc x) []) refl ∙ missing_back k (suc x) [] tt tt
missing_back (suc k) x (r ∷ rs) t u =
    equal_or r x
    (λ e.
    ap (missing (suc k) x) (missing_hit k x r rs e)
    ∙ from_later k x (missing k (suc x) rs) (missing_asc k (suc x) rs)
    ∙ ap₂ {C = List ℕ} (λ (a : ℕ) (l : List ℕ). a ∷ l) (sym e)
    (missing_back k (suc x) rs (asc_weaken (omega arith) rs t.1) (below_shift x k rs u.1)))
    (λ e.
    ap (missing (suc k) x) (missing_skip k x r rs e)
    ∙ missing_hit k x x (missing k (suc x) (r ∷ rs)) refl
    ∙ missing_back k (suc x) (r ∷ rs) (omega (arith, t.0), t.1) (below_shift x k (r ∷ rs) u))

-- ---- how many are below a place, and which are listed

none_below : (r a : ℕ) (rs : List ℕ) → r ≤ a → Asc a rs → count_below r rs ≡ 0
unfolding count_below
none_below r a [] h t = refl
none_below r a (x ∷ rs) h t = rw (le-ltb x r (omega (arith, t.0)), none_below r (suc x) rs (omega (arith, t.0)) t.1)

count_cons : (r x : ℕ) (rs : List ℕ) → x < r → count_below r (x ∷ rs) ≡ 1 + count_below r rs
unfolding count_below
count_cons r x rs h = rw (lt-ltb x r h)

pub missing_count : (k x r : ℕ) (ms : List ℕ) → Asc x ms → Below (x + k) ms → x ≤ r → r ≤ x + k → count_below r (missing k x ms) + count_below r ms + x ≡ r
missing_count zero x r [] t u h j = rw missing_end (omega (arith, none_below r r [] (le_refl r) tt))
missing_count zero x r (m ∷ ms) t u h j = absurd (omega (arith, t.0, u.0))
missing_count (suc k) x r [] t u h j =
    below_or x r
    (λ l.
    let e = ap (count_below r) (missing_none k x) ∙ count_cons r x (missing k (suc x) []) l in
    omega (arith, e, missing_count k (suc x) r [] tt tt (omega arith) (omega arith)))
    (λ l. omega (arith, none_below r x (missing (suc k) x []) (omega arith) (missing_asc (suc k) x []), none_below r x [] (omega arith) tt))
missing_count (suc k) x r (m ∷ ms) t u h j =
    below_or x r
    (λ l.
    equal_or m x
    (λ e.
    omega (
      arith,
      ap (count_below r) (missing_hit k x m ms e),
      count_cons r m ms (omega arith),
      missing_count k (suc x) r ms (asc_weaken (omega arith) ms t.1) (below_shift x k ms u.1) (omega arith) (omega arith),
    ))
    (λ e.
    omega (
      arith,
      ap (count_below r) (missing_skip k x m ms e) ∙ count_cons r x (missing k (suc x) (m ∷ ms)) l,
      missing_count k (suc x) r (m ∷ ms) (omega (arith, t.0), t.1) (below_shift x k (m ∷ ms) u) (omega arith) (omega arith),
    )))
    (λ l. omega (arith, none_below r x (missing (suc k) x (m ∷ ms)) (omega arith) (missing_asc (suc k) x (m ∷ ms)), none_below r x (m ∷ ms) (omega arith) t))

listed_first : (r x : ℕ) (rs : List ℕ) → x ≡ r → listed r (x ∷ rs) ≡ true
unfolding listed
listed_first r x rs e = rw (eq-eqb x r e)

listed_later : (r x : ℕ) (rs : List ℕ) → (x ≡ r → ⊥) → listed r (x ∷ rs) ≡ listed r rs
unfolding listed
listed_later r x rs e = rw (ne_eqb x r e)

pub missing_listed : (k x r : ℕ) (ms : List ℕ) → Asc x ms → Below (x + k) ms → x ≤ r → r < x + k → listed r (missing k x ms) ≡ not (listed r ms)
missing_listed zero x r ms t u h j = absurd (omega arith)
missing_listed (suc k) x r [] t u h j =
    ap (listed r) (missing_none k x)
    ∙ equal_or x r
    (λ e. listed_first r x (missing k (suc x) []) e ∙ sym (ap not (listed_higher r (suc r) [] (omega arith) tt)))
    (λ e. listed_later r x (missing k (suc x) []) e ∙ missing_listed k (suc x) r [] tt tt (omega arith) (omega arith))
missing_listed (suc k) x r (m ∷ ms) t u h j =
    equal_or m x
    (λ e.
    ap (listed r) (missing_hit k x m ms e)
    ∙ equal_or m r
    (λ f. listed_higher r (suc x) (missing k (suc x) ms) (omega arith) (missing_asc k (suc x) ms) ∙ sym (ap not (listed_first r m ms f)))
    (λ f.
    missing_listed k (suc x) r ms (asc_weaken (omega arith) ms t.1) (below_shift x k ms u.1) (omega arith) (omega arith)
    ∙ sym (ap not (listed_later r m ms f))))
    (λ e.
    ap (listed r) (missing_skip k x m ms e)
    ∙ equal_or x r
    (λ f. listed_first r x (missing k (suc x) (m ∷ ms)) f ∙ sym (ap not (listed_higher r m (m ∷ ms) (omega (arith, t.0)) (le_refl m, t.1))))
    (λ f.
    listed_later r x (missing k (suc x) (m ∷ ms)) f
    ∙ missing_listed k (suc x) r (m ∷ ms) (omega (arith, t.0), t.1) (below_shift x k (m ∷ ms) u) (omega arith) (omega arith)))
