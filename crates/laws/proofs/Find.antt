-- An id in a list, by its block and its place: how many ids are below it, whether it is listed, how many are in its block.
-- Assumes nothing.
use Rattle.format.specs.Kit.{◌≡◌, refl, sym, ap, ap₂, ◌∙◌, Bool, true, false, cond, not, ◌||◌, or-false, or_assoc, List, [], ◌∷◌, ◌++◌, map}
use Rattle.format.specs.Kit.{append-nil, ℕ, suc, ◌+◌, ◌*◌, ◌/◌, ◌%◌, ◌<◌, ◌≤◌, zero-le, zero-add, arith, eqb, length, ne_eqb, eq-eqb, lt-ltb}
use Rattle.format.specs.Kit.{le-ltb}
use Rattle.format.specs.Ids.{Run, count_below}
use Rattle.format.specs.IdsRead.{ids_of}
use Rattle.format.specs.Pairs.{Below}
use Rattle.format.specs.Walk.{in_block, listed, listed_places}
use Rattle.format.specs.Runs.{AllFine, AscBlocks}
use Rattle.laws.proofs.Cases.{below_or, equal_or}
use Rattle.laws.proofs.Jumps.{under, ids_under, none_under}
use Rattle.laws.proofs.Ones.{occurs}

-- the places of block b
unfoldable pub places_of : ℕ → List Run → List ℕ
places_of b [] = []
places_of b (g ∷ gs) = cond (eqb g.block b) g.places (places_of b gs)

pub no_places : (b next : ℕ) (gs : List Run) → b < next → AscBlocks next gs → places_of b gs ≡ []
unfolding places_of
no_places b next [] h t = refl
no_places b next (g ∷ gs) h t =
    rw (ne_eqb g.block b (λ e. omega (arith, t.0))) (no_places b (suc g.block) gs (omega (arith, t.0)) t.1)

-- ---- counts

pub count_append : (x : ℕ) (xs ys : List ℕ) → count_below x (xs ++ ys) ≡ count_below x xs + count_below x ys
unfolding count_below
count_append x [] ys = omega arith
count_append x (r ∷ rs) ys = omega (arith, count_append x rs ys)

module _ (k : ℕ) where
  pub count_same : (x : ℕ) (rs : List ℕ) → count_below (k + x) (map (λ r. k + r) rs) ≡ count_below x rs
  unfolding count_below
  count_same x [] = refl
  count_same x (r ∷ rs) =
      below_or r x
      (λ h. rw (lt-ltb (k + r) (k + x) (omega arith), lt-ltb r x h, count_same x rs))
      (λ h. rw (le-ltb (k + r) (k + x) (omega arith), le-ltb r x h, count_same x rs))

  pub count_none : (id : ℕ) (rs : List ℕ) → id ≤ k → count_below id (map (λ r. k + r) rs) ≡ 0
  unfolding count_below
  count_none id [] h = refl
  count_none id (r ∷ rs) h = rw (le-ltb (k + r) id (omega arith), count_none id rs h)

  pub count_all : (id : ℕ) (rs : List ℕ) → k + 65536 ≤ id → Below 65536 rs → count_below id (map (λ r. k + r) rs) ≡ length rs
  unfolding count_below
  count_all id [] h u = refl
  count_all id (r ∷ rs) h u = rw (lt-ltb (k + r) id (omega (arith, u.0)), count_all id rs h u.1) (omega arith)

count_above : (id next : ℕ) (gs : List Run) → id ≤ next * 65536 → AscBlocks next gs → count_below id (ids_of gs) ≡ 0
unfolding ids_of count_below
count_above id next [] h t = refl
count_above id next (g ∷ gs) h t =
    omega (
      arith,
      count_append id (map (λ r. g.block * 65536 + r) g.places) (ids_of gs),
      count_none (g.block * 65536) id g.places (omega (arith, t.0)),
      count_above id (suc g.block) gs (omega (arith, t.0)) t.1,
    )

pub count_runs : (b r next : ℕ) (gs : List Run) → r < 65536 → AscBlocks next gs → AllFine gs
    → count_below (b * 65536 + r) (ids_of gs) ≡ ids_under b gs + count_below r (places_of b gs)
unfolding ids_of under places_of count_below
count_runs b r next [] h t u = refl
count_runs b r next (g ∷ gs) h t u =
    let k : ℕ = g.block * 65536 in
    let id : ℕ = b * 65536 + r in
    let both = count_append id (map (λ x. k + x) g.places) (ids_of gs) in
    below_or g.block b
    (λ l.
    rw (lt-ltb g.block b l, ne_eqb g.block b (λ e. omega arith))
    (omega (arith, both, count_all k id g.places (omega arith) u.0.inside, count_runs b r (suc g.block) gs h t.1 u.1)))
    (λ l.
    let none = none_under (λ n. n) b (suc g.block) gs (omega arith) t.1 in
    let after = count_above id (suc g.block) gs (omega arith) t.1 in
    equal_or g.block b
    (λ e.
    let here = ap (λ (n : ℕ). count_below id (map (λ x. n * 65536 + x) g.places)) e ∙ count_same (b * 65536) r g.places in
    rw (le-ltb g.block b l, eq-eqb g.block b e) (omega (arith, both, none, after, here)))
    (λ e.
    rw (le-ltb g.block b l, ne_eqb g.block b e, no_places b (suc g.block) gs (omega arith) t.1)
    (omega (arith, both, none, after, count_none k id g.places (omega arith)))))

-- ---- listed

pub listed_append : (x : ℕ) (xs ys : List ℕ) → listed x (xs ++ ys) ≡ listed x xs || listed x ys
unfolding listed
listed_append x [] ys = refl
listed_append x (r ∷ rs) ys = ap (λ (q : Bool). eqb r x || q) (listed_append x rs ys) ∙ sym (or_assoc (eqb r x) (listed x rs) (listed x ys))

module _ (k : ℕ) where
  pub listed_same : (x : ℕ) (rs : List ℕ) → listed (k + x) (map (λ r. k + r) rs) ≡ listed x rs
  unfolding listed
  listed_same x [] = refl
  listed_same x (r ∷ rs) =
      equal_or r x
      (λ e. rw (eq-eqb (k + r) (k + x) (omega arith), eq-eqb r x e))
      (λ e. rw (ne_eqb (k + r) (k + x) (λ f. e (omega arith)), ne_eqb r x e) (listed_same x rs))

  pub listed_not : (id : ℕ) (rs : List ℕ) → Below 65536 rs → (k ≤ id → id < k + 65536 → ⊥) → listed id (map (λ r. k + r) rs) ≡ false
  unfolding listed
  listed_not id [] u h = refl
  listed_not id (r ∷ rs) u h = rw (ne_eqb (k + r) id (λ e. h (omega arith) (omega (arith, u.0)))) (listed_not id rs u.1 h)

listed_above : (id next : ℕ) (gs : List Run) → id < next * 65536 → AscBlocks next gs → AllFine gs → listed id (ids_of gs) ≡ false
unfolding ids_of listed
listed_above id next [] h t u = refl
listed_above id next (g ∷ gs) h t u =
    listed_append id (map (λ r. g.block * 65536 + r) g.places) (ids_of gs)
    ∙ ap₂ ◌||◌ (listed_not (g.block * 65536) id g.places u.0.inside (λ a b. omega (arith, t.0)))
    (listed_above id (suc g.block) gs (omega (arith, t.0)) t.1 u.1)

pub listed_runs : (b r next : ℕ) (gs : List Run) → r < 65536 → AscBlocks next gs → AllFine gs → listed (b * 65536 + r) (ids_of gs) ≡ listed r (places_of b gs)
unfolding ids_of places_of listed
listed_runs b r next [] h t u = refl
listed_runs b r next (g ∷ gs) h t u =
    listed_append (b * 65536 + r) (map (λ x. g.block * 65536 + x) g.places) (ids_of gs)
    ∙ equal_or g.block b
    (λ e.
    rw (eq-eqb g.block b e)
    (ap₂ ◌||◌ (ap (λ (n : ℕ). listed (b * 65536 + r) (map (λ x. n * 65536 + x) g.places)) e ∙ listed_same (b * 65536) r g.places)
    (listed_above (b * 65536 + r) (suc g.block) gs (omega arith) t.1 u.1)
    ∙ or-false (listed r g.places)))
    (λ e.
    rw (ne_eqb g.block b e)
    (ap₂ ◌||◌ (listed_not (g.block * 65536) (b * 65536 + r) g.places u.0.inside (λ x y. e (omega arith)))
    (listed_runs b r (suc g.block) gs h t.1 u.1)))

-- ---- how many in a block

in_append : (b : ℕ) (xs ys : List ℕ) → in_block b (xs ++ ys) ≡ in_block b xs + in_block b ys
unfolding in_block
in_append b [] ys = omega arith
in_append b (i ∷ is) ys = omega (arith, in_append b is ys)

in_same : (b : ℕ) (rs : List ℕ) → Below 65536 rs → in_block b (map (λ r. b * 65536 + r) rs) ≡ length rs
unfolding in_block
in_same b [] u = refl
in_same b (r ∷ rs) u = rw (eq-eqb ((b * 65536 + r) / 65536) b (omega (arith, u.0)), in_same b rs u.1) (omega arith)

in_not : (b k : ℕ) (rs : List ℕ) → (k ≡ b → ⊥) → Below 65536 rs → in_block b (map (λ r. k * 65536 + r) rs) ≡ 0
unfolding in_block
in_not b k [] h u = refl
in_not b k (r ∷ rs) h u = rw (ne_eqb ((k * 65536 + r) / 65536) b (λ e. h (omega (arith, u.0))), in_not b k rs h u.1)

pub in_runs_is : (b next : ℕ) (gs : List Run) → AscBlocks next gs → AllFine gs → in_block b (ids_of gs) ≡ length (places_of b gs)
unfolding ids_of places_of in_block
in_runs_is b next [] t u = refl
in_runs_is b next (g ∷ gs) t u =
    let both = in_append b (map (λ x. g.block * 65536 + x) g.places) (ids_of gs) in
    let after = in_runs_is b (suc g.block) gs t.1 u.1 in
    equal_or g.block b
    (λ e.
    let here = ap (λ (n : ℕ). in_block b (map (λ x. n * 65536 + x) g.places)) e ∙ in_same b g.places u.0.inside in
    rw (eq-eqb g.block b e) (omega (arith, both, after, here, ap length (no_places b (suc g.block) gs (omega arith) t.1))))
    (λ e. rw (ne_eqb g.block b e) (omega (arith, both, after, in_not b g.block g.places e u.0.inside)))

-- ---- the places listed in a block

listed_places_append : (b : ℕ) (xs ys : List ℕ) → listed_places b (xs ++ ys) ≡ listed_places b xs ++ listed_places b ys
unfolding listed_places
listed_places_append b [] ys = refl
listed_places_append b (i ∷ is) ys =
    equal_or (i / 65536) b
    (λ e. rw (eq-eqb (i / 65536) b e) (ap (λ (l : List ℕ). i % 65536 ∷ l) (listed_places_append b is ys)))
    (λ e. rw (ne_eqb (i / 65536) b e) (listed_places_append b is ys))

its_own : (b : ℕ) (rs : List ℕ) → Below 65536 rs → listed_places b (map (λ r. b * 65536 + r) rs) ≡ rs
unfolding listed_places
its_own b [] u = refl
its_own b (r ∷ rs) u =
    let e : (b * 65536 + r) % 65536 ≡ r = omega (arith, u.0) in
    rw (eq-eqb ((b * 65536 + r) / 65536) b (omega (arith, u.0)), e, its_own b rs u.1)

not_its : (b k : ℕ) (rs : List ℕ) → (k ≡ b → ⊥) → Below 65536 rs → listed_places b (map (λ r. k * 65536 + r) rs) ≡ []
unfolding listed_places
not_its b k [] h u = refl
not_its b k (r ∷ rs) h u = rw (ne_eqb ((k * 65536 + r) / 65536) b (λ e. h (omega (arith, u.0)))) (not_its b k rs h u.1)

pub places_runs : (b next : ℕ) (gs : List Run) → AscBlocks next gs → AllFine gs → listed_places b (ids_of gs) ≡ places_of b gs
unfolding ids_of places_of listed_places
places_runs b next [] t u = refl
places_runs b next (g ∷ gs) t u =
    let after = places_runs b (suc g.block) gs t.1 u.1 in
    listed_places_append b (map (λ x. g.block * 65536 + x) g.places) (ids_of gs)
    ∙ equal_or g.block b
    (λ e.
    rw (eq-eqb g.block b e)
    (ap₂ (λ (x y : List ℕ). x ++ y) (ap (λ (n : ℕ). listed_places b (map (λ x. n * 65536 + x) g.places)) e ∙ its_own b g.places u.0.inside)
    (after ∙ no_places b (suc g.block) gs (omega arith) t.1)
    ∙ append-nil g.places))
    (λ e. rw (ne_eqb g.block b e, not_its b g.block g.places e u.0.inside) after)

-- ---- places: listed and occurring

pub occurs_listed : (x : ℕ) (rs : List ℕ) → eqb (occurs x rs) 0 ≡ not (listed x rs)
unfolding occurs listed
occurs_listed x [] = refl
occurs_listed x (r ∷ rs) =
    equal_or r x
    (λ e. rw (eq-eqb r x e, ne_eqb (1 + occurs x rs) 0 (λ z. omega arith)))
    (λ e. rw (ne_eqb r x e, zero-add) (occurs_listed x rs))

pub count_length : (x : ℕ) (rs : List ℕ) → count_below x rs ≤ length rs
unfolding count_below
count_length x [] = zero-le
count_length x (r ∷ rs) = below_or r x (λ h. rw (lt-ltb r x h) (omega (arith, count_length x rs))) (λ h. rw (le-ltb r x h) (omega (arith, count_length x rs)))

-- a listed place has a place after those below it
pub count_lt : (x : ℕ) (rs : List ℕ) → listed x rs ≡ true → count_below x rs < length rs
unfolding listed count_below
count_lt x [] e = absurd (let z : ◌≡◌ {A = ℕ} 0 1 = cc in omega arith)
count_lt x (r ∷ rs) e =
    below_or r x
    (λ h. rw (lt-ltb r x h) (omega (arith, count_lt x rs (rw (ne_eqb r x (λ z. omega arith)) at e))))
    (λ h. rw (le-ltb r x h) (omega (arith, count_length x rs)))
