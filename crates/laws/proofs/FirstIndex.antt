-- Document 01, "Refusal numbers": ORDER, "an id is not above the one before", and RANGE, "an id above its limit", come with the "first such index". Exactly.
-- Assumes nothing.
use Rattle.format.specs.Kit.{◌≡◌, ◌↔◌, refl, ap, ◌∙◌, List, [], ◌∷◌, Option, some, ℕ, zero, suc, ◌+◌, ◌≤◌, ◌<◌, arith}
use Rattle.format.specs.Kit.{length, get_or, leb, ltb, leb-true, leb-false, le-leb, lt-leb, ltb-true, ltb-false, lt-ltb, le-ltb}
use Rattle.format.specs.Limits.{max_id}
use Rattle.format.specs.Writer.{not_above, order_fault, range_fault}
use Rattle.laws.proofs.Cases.{true_or}
use Rattle.format.specs.Says.{First, NotAbove, AboveLimit}

-- ---- ORDER

-- after the id a: the first of xs that is not above the one before
record After (a : ℕ) (xs : List ℕ) (j : ℕ) : Type 0 where
  inside : j < length xs
  such : get_or xs j 0 ≤ get_or (a ∷ xs) j 0
  before : (k : ℕ) → k < j → get_or (a ∷ xs) k 0 < get_or xs k 0

later : (a x : ℕ) (xs : List ℕ) (j : ℕ) → a < x → After x xs j → After a (x ∷ xs) (suc j)
later a x xs j h f = record { inside = omega (arith, f.inside); such = f.such; before = go }
  where
    go : (k : ℕ) → k < suc j → get_or (a ∷ x ∷ xs) k 0 < get_or (x ∷ xs) k 0
    go zero l = h
    go (suc k) l = f.before k (omega arith)

after : (s a : ℕ) (xs : List ℕ) (i : ℕ) → not_above s a xs ≡ some i → (j : ℕ) × (i ≡ s + j) × After a xs j
unfolding not_above
after s a [] i e = absurd (let z : ◌≡◌ {A = ℕ} 0 1 = cc in omega arith)
after s a (x ∷ xs) i e =
    true_or (ltb a x)
    (λ h.
    let r = after (suc s) x xs i (rw h at e) in
    (suc r.0, omega (arith, r.1), later a x xs r.0 (ltb-true a x h) r.2))
    (λ h.
    let f : some s ≡ some i = rw h at e in
    let z : s ≡ i = cc in
    (0, omega arith, record { inside = omega arith; such = ltb-false a x h; before = λ k l. absurd (omega arith) }))

at_after : (s a : ℕ) (xs : List ℕ) (j : ℕ) → After a xs j → not_above s a xs ≡ some (s + j)
unfolding not_above
at_after s a [] j f = absurd (omega (arith, f.inside))
at_after s a (x ∷ xs) zero f = rw (le-ltb a x f.such) (ap {B = Option ℕ} (λ (n : ℕ). some n) (omega arith))
at_after s a (x ∷ xs) (suc j) f =
    rw (lt-ltb a x (f.before 0 (omega arith)))
    (at_after (suc s) x xs j (record { inside = omega (arith, f.inside); such = f.such; before = λ k l. f.before (suc k) (omega arith) })
    ∙ ap {B = Option ℕ} (λ (n : ℕ). some n) (omega arith))

pub order_first : (ids : List ℕ) (i : ℕ) → (order_fault ids ≡ some i) ↔ First (NotAbove ids) (length ids) i
unfolding order_fault
order_first [] i = (λ e. absurd (let z : ◌≡◌ {A = ℕ} 0 1 = cc in omega arith), λ f. absurd (omega (arith, f.inside)))
order_first (x ∷ xs) i = (to, from)
  where
    to : not_above 1 x xs ≡ some i → First (NotAbove (x ∷ xs)) (length (x ∷ xs)) i
    to e =
        let r = after 1 x xs i e in
        let is : i ≡ suc r.0 = omega (arith, r.1) in
        rw is
        record {
          inside = omega (arith, r.2.inside);
          such = (r.0, refl, r.2.such);
          none_before = none_such r.0 r.2;
        }
      where
        none_such : (j : ℕ) → After x xs j → (k : ℕ) → k < suc j → NotAbove (x ∷ xs) k → ⊥
        none_such j f k l s =
            let e : k ≡ suc s.0 = s.1 in
            let h : get_or (x ∷ xs) (suc s.0) 0 ≤ get_or (x ∷ xs) s.0 0 = rw e at s.2 in
            omega (arith, f.before s.0 (omega arith), h)

    from : First (NotAbove (x ∷ xs)) (length (x ∷ xs)) i → not_above 1 x xs ≡ some i
    from f =
        let j : ℕ = f.such.0 in
        let is : i ≡ suc j = f.such.1 in
        let h : get_or (x ∷ xs) (suc j) 0 ≤ get_or (x ∷ xs) j 0 = rw is at f.such.2 in
        at_after 1 x xs j
        (record {
          inside = omega (arith, f.inside, is);
          such = h;
          before = λ k l.
              true_or (ltb (get_or (x ∷ xs) k 0) (get_or xs k 0))
              (λ t. ltb-true (get_or (x ∷ xs) k 0) (get_or xs k 0) t)
              (λ t. absurd (f.none_before (suc k) (omega (arith, is)) (k, refl, ltb-false (get_or (x ∷ xs) k 0) (get_or xs k 0) t)));
        })
        ∙ ap {B = Option ℕ} (λ (n : ℕ). some n) (omega (arith, is))

-- ---- RANGE

shifted : (x : ℕ) (xs : List ℕ) (j : ℕ) → x ≤ max_id → First (AboveLimit xs) (length xs) j → First (AboveLimit (x ∷ xs)) (length (x ∷ xs)) (suc j)
shifted x xs j h f = record { inside = omega (arith, f.inside); such = f.such; none_before = go }
  where
    go : (k : ℕ) → k < suc j → AboveLimit (x ∷ xs) k → ⊥
    go zero l s = omega arith
    go (suc k) l s = f.none_before k (omega arith) s

above : (s : ℕ) (xs : List ℕ) (i : ℕ) → range_fault s xs ≡ some i → (j : ℕ) × (i ≡ s + j) × First (AboveLimit xs) (length xs) j
unfolding range_fault
above s [] i e = absurd (let z : ◌≡◌ {A = ℕ} 0 1 = cc in omega arith)
above s (x ∷ xs) i e =
    true_or (leb x max_id)
    (λ h.
    let r = above (suc s) xs i (rw h at e) in
    (suc r.0, omega (arith, r.1), shifted x xs r.0 (leb-true x max_id h) r.2))
    (λ h.
    let f : some s ≡ some i = rw h at e in
    let z : s ≡ i = cc in
    (0, omega arith, record { inside = omega arith; such = leb-false x max_id h; none_before = λ k l t. omega arith }))

at_above : (s : ℕ) (xs : List ℕ) (j : ℕ) → First (AboveLimit xs) (length xs) j → range_fault s xs ≡ some (s + j)
unfolding range_fault
at_above s [] j f = absurd (omega (arith, f.inside))
at_above s (x ∷ xs) zero f = rw (lt-leb x max_id f.such) (ap {B = Option ℕ} (λ (n : ℕ). some n) (omega arith))
at_above s (x ∷ xs) (suc j) f =
    let low : x ≤ max_id = true_or (leb x max_id) (λ t. leb-true x max_id t) (λ t. absurd (f.none_before 0 (omega arith) (leb-false x max_id t))) in
    rw (le-leb x max_id low)
    (at_above (suc s) xs j (record { inside = omega (arith, f.inside); such = f.such; none_before = λ k l t. f.none_before (suc k) (omega arith) t })
    ∙ ap {B = Option ℕ} (λ (n : ℕ). some n) (omega arith))

pub range_first : (ids : List ℕ) (i : ℕ) → (range_fault 0 ids ≡ some i) ↔ First (AboveLimit ids) (length ids) i
range_first ids i = (
  λ e.
      let r = above 0 ids i e in
      let z : r.0 ≡ i = omega (arith, r.1) in
      rw (← z) r.2,
  λ f. at_above 0 ids i f ∙ ap {B = Option ℕ} (λ (n : ℕ). some n) (omega arith),
)
