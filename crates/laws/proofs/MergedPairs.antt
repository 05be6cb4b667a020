-- The merge of two pair lists, in which the correction wins: it ascends strictly, has for each id the correction's pair or else the machine
-- column's, and its first pair at or above a target is the sooner of the two lists'. Assumes nothing.
use Rattle.format.specs.Kit.{◌≡◌, refl, sym, ap, ◌∙◌, Bool, true, false, ◌||◌, or_assoc, List, [], ◌∷◌, ℕ, suc, ◌+◌, ◌≤◌, ◌<◌, arith, some, length}
use Rattle.format.specs.Kit.{eqb, le-leb, lt-leb, lt-ltb, le-ltb, eq-eqb, ne_eqb}
use Rattle.format.specs.Pairs.{Asc, Below}
use Rattle.format.specs.Walk.{listed}
use Rattle.laws.proofs.Cases.{below_or, equal_or}
use Rattle.format.specs.LayeredReading.{LayeredPair, pair_ids, LayeredNext, next_pair, no_pair, refused_next, sooner, corrected, corrected_by, first_at}
use Rattle.format.specs.LayeredReading.{pair_with, or_below}

-- ---- one pair put into its place, by the order of its id and the first one's

module _ (p q : LayeredPair) (qs : List LayeredPair) where
  pub before : p.id < q.id → corrected p (q ∷ qs) ≡ p ∷ q ∷ qs
  unfolding corrected
  before h = rw (lt-ltb p.id q.id h)

  pub instead : p.id ≡ q.id → corrected p (q ∷ qs) ≡ p ∷ qs
  unfolding corrected
  instead h = rw (le-ltb p.id q.id (omega arith), eq-eqb p.id q.id h)

  pub later : q.id < p.id → corrected p (q ∷ qs) ≡ q ∷ corrected p qs
  unfolding corrected
  later h = rw (le-ltb p.id q.id (omega arith), ne_eqb p.id q.id (λ e. omega arith))

  by_order : {X : Type 0} → (p.id < q.id → X) → (p.id ≡ q.id → X) → (q.id < p.id → X) → X
  by_order f g h = below_or p.id q.id f (λ l. equal_or p.id q.id g (λ e. h (omega arith)))

-- ---- it ascends

pub corrected_asc : (a : ℕ) (p : LayeredPair) (qs : List LayeredPair) → a ≤ p.id → Asc a (pair_ids qs) → Asc a (pair_ids (corrected p qs))
unfolding corrected
corrected_asc a p [] h t = (h, tt)
corrected_asc a p (q ∷ qs) h t =
    by_order p q qs
    (λ l. rw (before p q qs l) (h, (omega arith, t.1)))
    (λ e. rw (instead p q qs e) (h, rw e t.1))
    (λ l. rw (later p q qs l) (t.0, corrected_asc (suc q.id) p qs (omega arith) t.1))

asc_from_lem : (a b : ℕ) (xs : List ℕ) → a ≤ b → Asc b xs → Asc a xs
asc_from_lem a b [] h t = tt
asc_from_lem a b (x ∷ xs) h t = (omega (arith, t.0), t.1)

pub by_asc : (ps ms : List LayeredPair) → Asc 0 (pair_ids ps) → Asc 0 (pair_ids ms) → Asc 0 (pair_ids (corrected_by ps ms))
unfolding corrected_by
by_asc [] ms s t = t
by_asc (p ∷ ps) ms s t =
    corrected_asc 0 p (corrected_by ps ms) (omega arith) (by_asc ps ms (asc_from_lem 0 (suc p.id) (pair_ids ps) (omega arith) s.1) t)

pub corrected_below : (b : ℕ) (p : LayeredPair) (qs : List LayeredPair) → p.id < b → Below b (pair_ids qs) → Below b (pair_ids (corrected p qs))
unfolding corrected
corrected_below b p [] h t = (h, tt)
corrected_below b p (q ∷ qs) h t =
    by_order p q qs
    (λ l. rw (before p q qs l) (h, (t.0, t.1)))
    (λ e. rw (instead p q qs e) (h, t.1))
    (λ l. rw (later p q qs l) (t.0, corrected_below b p qs h t.1))

pub by_below : (b : ℕ) (ps ms : List LayeredPair) → Below b (pair_ids ps) → Below b (pair_ids ms) → Below b (pair_ids (corrected_by ps ms))
unfolding corrected_by
by_below b [] ms s t = t
by_below b (p ∷ ps) ms s t = corrected_below b p (corrected_by ps ms) s.0 (by_below b ps ms s.1 t)

-- ---- the pair that has an id

pub at_head : (id : ℕ) (p : LayeredPair) (ps : List LayeredPair) → p.id ≡ id → pair_with id (p ∷ ps) ≡ some p
unfolding pair_with
at_head id p ps e = rw (eq-eqb p.id id e)

pub at_tail : (id : ℕ) (p : LayeredPair) (ps : List LayeredPair) → (p.id ≡ id → ⊥) → pair_with id (p ∷ ps) ≡ pair_with id ps
unfolding pair_with
at_tail id p ps e = rw (ne_eqb p.id id e)

-- the pair put in has its id,
pub corrected_same : (id : ℕ) (p : LayeredPair) (qs : List LayeredPair) → p.id ≡ id → pair_with id (corrected p qs) ≡ some p
unfolding corrected
corrected_same id p [] e = at_head id p [] e
corrected_same id p (q ∷ qs) e =
    by_order p q qs
    (λ l. rw (before p q qs l) (at_head id p (q ∷ qs) e))
    (λ l. rw (instead p q qs l) (at_head id p qs e))
    (λ l. rw (later p q qs l) (at_tail id q (corrected p qs) (λ f. omega arith) ∙ corrected_same id p qs e))

-- and all others are as before
pub corrected_other : (id : ℕ) (p : LayeredPair) (qs : List LayeredPair) → (p.id ≡ id → ⊥) → pair_with id (corrected p qs) ≡ pair_with id qs
unfolding corrected
corrected_other id p [] e = at_tail id p [] e
corrected_other id p (q ∷ qs) e =
    by_order p q qs
    (λ l. rw (before p q qs l) (at_tail id p (q ∷ qs) e))
    (λ l. rw (instead p q qs l) (at_tail id p qs e ∙ sym (at_tail id q qs (λ f. e (l ∙ f)))))
    (λ l.
    rw (later p q qs l)
    (equal_or q.id id
    (λ f. at_head id q (corrected p qs) f ∙ sym (at_head id q qs f))
    (λ f. at_tail id q (corrected p qs) f ∙ corrected_other id p qs e ∙ sym (at_tail id q qs f))))

-- so each id has the correction's pair, or else the machine column's: on any two lists
pub by_members : (id : ℕ) (ps ms : List LayeredPair) → pair_with id (corrected_by ps ms) ≡ or_below (pair_with id ps) (pair_with id ms)
unfolding corrected_by or_below pair_with
by_members id [] ms = refl
by_members id (p ∷ ps) ms =
    equal_or p.id id
    (λ e. corrected_same id p (corrected_by ps ms) e ∙ sym (ap (λ o. or_below o (pair_with id ms)) (at_head id p ps e)))
    (λ e. corrected_other id p (corrected_by ps ms) e ∙ by_members id ps ms ∙ sym (ap (λ o. or_below o (pair_with id ms)) (at_tail id p ps e)))

-- ---- its ids are those of the two lists, and it has at most as many pairs as both

corrected_ids : (id : ℕ) (p : LayeredPair) (qs : List LayeredPair) → listed id (pair_ids (corrected p qs)) ≡ eqb p.id id || listed id (pair_ids qs)
unfolding corrected listed
corrected_ids id p [] = refl
corrected_ids id p (q ∷ qs) =
    by_order p q qs
    (λ l. rw (before p q qs l) refl)
    (λ e. rw (instead p q qs e, e) (twice (eqb q.id id) (listed id (pair_ids qs))))
    (λ l. rw (later p q qs l, corrected_ids id p qs) (swapped (eqb q.id id) (eqb p.id id) (listed id (pair_ids qs))))
  where
    twice : (a b : Bool) → a || b ≡ a || (a || b)
    twice true b = refl
    twice false b = refl

    swapped : (a b c : Bool) → a || (b || c) ≡ b || (a || c)
    swapped true true c = refl
    swapped true false c = refl
    swapped false true c = refl
    swapped false false c = refl

pub by_ids : (id : ℕ) (ps ms : List LayeredPair) → listed id (pair_ids (corrected_by ps ms)) ≡ listed id (pair_ids ps) || listed id (pair_ids ms)
unfolding corrected_by listed
by_ids id [] ms = refl
by_ids id (p ∷ ps) ms =
    corrected_ids id p (corrected_by ps ms)
    ∙ ap (λ (b : Bool). eqb p.id id || b) (by_ids id ps ms)
    ∙ sym (or_assoc (eqb p.id id) (listed id (pair_ids ps)) (listed id (pair_ids ms)))

corrected_length : (p : LayeredPair) (qs : List LayeredPair) → length (corrected p qs) ≤ suc (length qs)
unfolding corrected
corrected_length p [] = omega arith
corrected_length p (q ∷ qs) =
    by_order p q qs
    (λ l. rw (before p q qs l) (omega arith))
    (λ e. rw (instead p q qs e) (omega arith))
    (λ l. rw (later p q qs l) (omega (arith, corrected_length p qs)))

pub by_length : (ps ms : List LayeredPair) → length (corrected_by ps ms) ≤ length ps + length ms
unfolding corrected_by
by_length [] ms = omega arith
by_length (p ∷ ps) ms = omega (arith, corrected_length p (corrected_by ps ms), by_length ps ms)

-- ---- the first pair at or above a target

module _ (t : ℕ) (p : LayeredPair) (ps : List LayeredPair) where
  pub first_under : p.id < t → first_at t (p ∷ ps) ≡ first_at t ps
  unfolding first_at
  first_under h = rw (lt-ltb p.id t h)

  pub first_here : t ≤ p.id → first_at t (p ∷ ps) ≡ next_pair p
  unfolding first_at
  first_here h = rw (le-ltb p.id t h)

module _ (p q : LayeredPair) where
  ours : p.id ≤ q.id → sooner (next_pair p) (next_pair q) ≡ next_pair p
  unfolding sooner
  ours h = rw (le-leb p.id q.id h)

  theirs : q.id < p.id → sooner (next_pair p) (next_pair q) ≡ next_pair q
  unfolding sooner
  theirs h = rw (lt-leb p.id q.id h)

-- a pair put in below the target does not show,
corrected_under : (t : ℕ) (p : LayeredPair) (qs : List LayeredPair) → p.id < t → first_at t (corrected p qs) ≡ first_at t qs
unfolding corrected
corrected_under t p [] h = first_under t p [] h
corrected_under t p (q ∷ qs) h =
    by_order p q qs
    (λ l. rw (before p q qs l) (first_under t p (q ∷ qs) h))
    (λ l. rw (instead p q qs l) (first_under t p qs h ∙ sym (first_under t q qs (omega arith))))
    (λ l.
    rw (later p q qs l)
    (first_under t q (corrected p qs) (omega arith) ∙ corrected_under t p qs h ∙ sym (first_under t q qs (omega arith))))

-- and one at or above it is the first, unless the list has a sooner one
corrected_first : (t : ℕ) (p : LayeredPair) (qs : List LayeredPair) → t ≤ p.id → first_at t (corrected p qs) ≡ sooner (next_pair p) (first_at t qs)
unfolding corrected sooner first_at
corrected_first t p [] h = first_here t p [] h
corrected_first t p (q ∷ qs) h =
    by_order p q qs
    (λ l.
    rw (before p q qs l)
    (first_here t p (q ∷ qs) h ∙ sym (ap (sooner (next_pair p)) (first_here t q qs (omega arith)) ∙ ours p q (omega arith))))
    (λ l.
    rw (instead p q qs l)
    (first_here t p qs h ∙ sym (ap (sooner (next_pair p)) (first_here t q qs (omega arith)) ∙ ours p q (omega arith))))
    (λ l.
    rw (later p q qs l)
    (below_or q.id t
    (λ m.
    first_under t q (corrected p qs) m ∙ corrected_first t p qs h ∙ sym (ap (sooner (next_pair p)) (first_under t q qs m)))
    (λ m.
    first_here t q (corrected p qs) m ∙ sym (ap (sooner (next_pair p)) (first_here t q qs m) ∙ theirs p q l))))

-- the first of ascending pairs: none, or one that is not below the target
pub first_or : {X : Type 0} (a t : ℕ) (ps : List LayeredPair) → Asc a (pair_ids ps) → (first_at t ps ≡ no_pair → X)
    → ((q : LayeredPair) → first_at t ps ≡ next_pair q → a ≤ q.id → X) → X
unfolding first_at
first_or a t [] s f g = f refl
first_or a t (p ∷ ps) s f g =
    below_or p.id t
    (λ h.
    first_or (suc p.id) t ps s.1 (λ e. f (first_under t p ps h ∙ e)) (λ q e l. g q (first_under t p ps h ∙ e) (omega (arith, s.0))))
    (λ h. g p (first_here t p ps h) s.0)

-- behind a sooner pair another one does not show
behind : (p r : LayeredPair) (y : LayeredNext) → p.id ≤ r.id → sooner (next_pair p) (sooner (next_pair r) y) ≡ sooner (next_pair p) y
unfolding sooner
behind p r (next_pair q) h =
    below_or q.id r.id
    (λ l. rw (lt-leb r.id q.id l))
    (λ l. rw (le-leb r.id q.id l, le-leb p.id r.id h, le-leb p.id q.id (omega arith)))
behind p r no_pair h = rw (le-leb p.id r.id h)
behind p r (refused_next layer why x) h = refl

-- the first pair of the merge is the sooner of the two lists' first pairs
pub by_first : (a t : ℕ) (ps ms : List LayeredPair) → Asc a (pair_ids ps) → first_at t (corrected_by ps ms) ≡ sooner (first_at t ps) (first_at t ms)
unfolding corrected_by first_at sooner
by_first a t [] ms s = refl
by_first a t (p ∷ ps) ms s =
    let more = by_first (suc p.id) t ps ms s.1 in
    below_or p.id t
    (λ h. corrected_under t p (corrected_by ps ms) h ∙ more ∙ sym (ap (λ x. sooner x (first_at t ms)) (first_under t p ps h)))
    (λ h.
    corrected_first t p (corrected_by ps ms) h
    ∙ ap (sooner (next_pair p)) more
    ∙ first_or (suc p.id) t ps s.1
    (λ e. ap (λ x. sooner (next_pair p) (sooner x (first_at t ms))) e)
    (λ q e l. ap (λ x. sooner (next_pair p) (sooner x (first_at t ms))) e ∙ behind p q (first_at t ms) (omega arith))
    ∙ sym (ap (λ x. sooner x (first_at t ms)) (first_here t p ps h)))
