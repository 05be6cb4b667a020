-- On any bytes: a column's next pair stays its next pair for each target up to it, so that a reading asks only the column anew whose pair was taken,
-- or both after a tie; and a reading ascends strictly from its target on and has no more pairs
-- than places. Assumes nothing.
use Rattle.format.specs.Kit.{◌≡◌, refl, sym, ◌∙◌, subst, List, ℕ, zero, suc, ◌+◌, ◌-◌, ◌≤◌, ◌<◌, arith, ℤ, length, leb, le-leb, lt-leb}
use Rattle.format.specs.Limits.{max_id}
use Rattle.format.specs.Refusals.{Outcome, done, refused}
use Rattle.format.specs.Opening.{Opened}
use Rattle.format.specs.LookUp.{Look, found, absent, scanned, steps}
use Rattle.format.specs.Next.{Candidate, candidate_at, no_candidate, decides, in_turn, next_steps}
use Rattle.format.specs.Layered.{machine, correction}
use Rattle.format.specs.Pairs.{Asc}
use Rattle.laws.proofs.Cases.{below_or, true_or}
use Rattle.format.specs.LayeredReading.{LayeredPair, LayeredNext, next_pair, no_pair, refused_next, next_from, sooner, next_of_both, layered_steps, pair_ids}
use Rattle.laws.proofs.LayeredReadings.{at_none, at_pair, at_refused, next_or}

module _ (bytes : List ℕ) (c : Opened) where
  -- the target's own look-up decides, or else the target above it
  one_up : (t : ℕ) → t ≤ max_id → next_steps bytes c t ≡ decides t (steps scanned bytes c t) (next_steps bytes c (suc t))
  unfolding next_steps in_turn
  one_up t h = let e : suc max_id - t ≡ suc (suc max_id - suc t) = omega arith in rw e refl

  pub none_past : (t : ℕ) → max_id < t → next_steps bytes c t ≡ done no_candidate
  unfolding next_steps in_turn
  none_past t h = let e : suc max_id - t ≡ 0 = omega arith in rw e refl

  -- a candidate above the target is the next target's too, and so is none
  above_it : (t id o : ℕ) (v : ℤ) (l : Outcome Look) (more : Outcome Candidate) → t < id → decides t l more ≡ done (candidate_at id o v)
      → more ≡ done (candidate_at id o v)
  unfolding decides
  above_it t id o v (done (found a b w)) more h e = absurd (let z : t ≡ id = cc in omega arith)
  above_it t id o v (done (absent w)) more h e = e
  above_it t id o v (refused why w) more h e = absurd (let z : ◌≡◌ {A = ℕ} 0 1 = cc in omega arith)

  none_too : (t : ℕ) (l : Outcome Look) (more : Outcome Candidate) → decides t l more ≡ done no_candidate → more ≡ done no_candidate
  unfolding decides
  none_too t (done (found a b w)) more e = absurd (let z : ◌≡◌ {A = ℕ} 0 1 = cc in omega arith)
  none_too t (done (absent w)) more e = e
  none_too t (refused why w) more e = absurd (let z : ◌≡◌ {A = ℕ} 0 1 = cc in omega arith)

  candidate_up : (t id o : ℕ) (v : ℤ) → t < id → next_steps bytes c t ≡ done (candidate_at id o v) → next_steps bytes c (suc t) ≡ done (candidate_at id o v)
  candidate_up t id o v h e =
      below_or max_id t
      (λ l. absurd (let n = none_past t l in let z : ◌≡◌ {A = ℕ} 0 1 = cc in omega arith))
      (λ l. above_it t id o v (steps scanned bytes c t) (next_steps bytes c (suc t)) h (sym (one_up t l) ∙ e))

  none_up : (t : ℕ) → next_steps bytes c t ≡ done no_candidate → next_steps bytes c (suc t) ≡ done no_candidate
  none_up t e =
      below_or max_id t
      (λ l. none_past (suc t) (omega arith))
      (λ l. none_too t (steps scanned bytes c t) (next_steps bytes c (suc t)) (sym (one_up t l) ∙ e))

  -- n targets on
  pub candidate_kept : (n t id o : ℕ) (v : ℤ) → t + n ≤ id → next_steps bytes c t ≡ done (candidate_at id o v) → next_steps bytes c (t + n) ≡ done
      (candidate_at id o v)
  candidate_kept zero t id o v h e = let z : t + 0 ≡ t = omega arith in rw z e
  candidate_kept (suc n) t id o v h e =
      let z : t + suc n ≡ suc t + n = omega arith in
      rw z (candidate_kept n (suc t) id o v (omega arith) (candidate_up t id o v (omega arith) e))

  pub none_kept : (n t : ℕ) → next_steps bytes c t ≡ done no_candidate → next_steps bytes c (t + n) ≡ done no_candidate
  none_kept zero t e = let z : t + 0 ≡ t = omega arith in rw z e
  none_kept (suc n) t e = let z : t + suc n ≡ suc t + n = omega arith in rw z (none_kept n (suc t) (none_up t e))

  -- told of a layered step: after an id i at or above the target and below the pair's, the pair is still to come
  pub pair_kept : (t i id o : ℕ) (v : ℤ) → t ≤ i → i < id → next_steps bytes c t ≡ done (candidate_at id o v)
      → next_steps bytes c (suc i) ≡ next_steps bytes c t
  pair_kept t i id o v a b e =
      let z : t + (suc i - t) ≡ suc i = omega arith in
      let k = candidate_kept (suc i - t) t id o v (omega arith) e in
      (rw z at k) ∙ sym e

  pub still_none : (t i : ℕ) → t ≤ i → next_steps bytes c t ≡ done no_candidate → next_steps bytes c (suc i) ≡ next_steps bytes c t
  still_none t i a e =
      let z : t + (suc i - t) ≡ suc i = omega arith in
      let k = none_kept (suc i - t) t e in
      (rw z at k) ∙ sym e

  -- no candidate is below its target
  from_it : (t id o : ℕ) (v : ℤ) (l : Outcome Look) (more : Outcome Candidate) → decides t l more ≡ done (candidate_at id o v)
      → (more ≡ done (candidate_at id o v) → t ≤ id) → t ≤ id
  unfolding decides
  from_it t id o v (done (found a b w)) more e f = let z : t ≡ id = cc in omega arith
  from_it t id o v (done (absent w)) more e f = f e
  from_it t id o v (refused why w) more e f = absurd (let z : ◌≡◌ {A = ℕ} 0 1 = cc in omega arith)

  not_below_lem : (n t id o : ℕ) (v : ℤ) → max_id < n + t → next_steps bytes c t ≡ done (candidate_at id o v) → t ≤ id
  not_below_lem zero t id o v h e = absurd (let n = none_past t (omega arith) in let z : ◌≡◌ {A = ℕ} 0 1 = cc in omega arith)
  not_below_lem (suc n) t id o v h e =
      below_or max_id t
      (λ l. absurd (let n = none_past t l in let z : ◌≡◌ {A = ℕ} 0 1 = cc in omega arith))
      (λ l.
      from_it t id o v (steps scanned bytes c t) (next_steps bytes c (suc t)) (sym (one_up t l) ∙ e)
      (λ f. omega (arith, not_below_lem n (suc t) id o v (omega arith) f)))

  pub candidate_from : (t id o : ℕ) (v : ℤ) → next_steps bytes c t ≡ done (candidate_at id o v) → t ≤ id
  candidate_from t id o v e = not_below_lem (suc max_id) t id o v (omega arith) e

-- ---- room

module _ (next : ℕ → LayeredNext) where
  pub few_pairs : (k t : ℕ) → length (layered_steps next k t).pairs ≤ k
  unfolding layered_steps
  few_pairs zero t = omega arith
  few_pairs (suc k) t =
      next_or next t
      (λ p e. rw (at_pair next k t p e) (omega (arith, few_pairs k (suc p.id))))
      (λ e. rw (at_none next (suc k) t e) (omega arith))
      (λ l why w e. rw (at_refused next (suc k) t l why w e) (omega arith))

-- ---- a reading ascends strictly from its target on

module _ (m : List ℕ) (x : Opened) (c : List ℕ) (y : Opened) where
  abbrev From : ℕ → Outcome Candidate → Type 0
  From t o = (id n : ℕ) (v : ℤ) → o ≡ done (candidate_at id n v) → t ≤ id

  abbrev PairFrom : ℕ → LayeredNext → Type 0
  PairFrom t (next_pair p) = t ≤ p.id
  PairFrom t no_pair = Unit {0}
  PairFrom t (refused_next layer why w) = Unit {0}

  of_both : (t : ℕ) (a b : Outcome Candidate) → From t a → From t b → PairFrom t (sooner (next_from correction a) (next_from machine b))
  unfolding sooner next_from
  of_both t (done (candidate_at i n u)) (done (candidate_at j k v)) f g =
      true_or (leb i j) (λ h. rw h (f i n u refl)) (λ h. rw h (g j k v refl))
  of_both t (done (candidate_at i n u)) (done no_candidate) f g = f i n u refl
  of_both t (done (candidate_at i n u)) (refused why w) f g = tt
  of_both t (done no_candidate) (done (candidate_at j k v)) f g = g j k v refl
  of_both t (done no_candidate) (done no_candidate) f g = tt
  of_both t (done no_candidate) (refused why w) f g = tt
  of_both t (refused why w) b f g = tt

  pub pair_from_lem : (t : ℕ) (p : LayeredPair) → next_of_both m x c y t ≡ next_pair p → t ≤ p.id
  unfolding next_of_both
  pair_from_lem t p e =
      subst (PairFrom t) e
      (of_both t (next_steps c y t) (next_steps m x t) (λ id n v f. candidate_from c y t id n v f) (λ id n v f. candidate_from m x t id n v f))

  pub ascends : (k t : ℕ) → Asc t (pair_ids (layered_steps (next_of_both m x c y) k t).pairs)
  unfolding layered_steps
  ascends zero t = tt
  ascends (suc k) t =
      let next = next_of_both m x c y in
      next_or next t
      (λ p e. rw (at_pair next k t p e) (pair_from_lem t p e, ascends k (suc p.id)))
      (λ e. rw (at_none next (suc k) t e) tt)
      (λ l why w e. rw (at_refused next (suc k) t l why w e) tt)

-- ---- one turn, of a loop that holds both columns' next candidates

module _ (m : List ℕ) (x : Opened) (c : List ℕ) (y : Opened) (t : ℕ) where
  abbrev next : ℕ → LayeredNext
  next = next_of_both m x c y

  -- the pair taken, and what each column's next candidate is afterwards: the same, or to be asked for anew
  module _ (i n : ℕ) (u : ℤ) (e : next_steps c y t ≡ done (candidate_at i n u)) where
    pub take_correction : (j k : ℕ) (v : ℤ) → next_steps m x t ≡ done (candidate_at j k v) → i < j
        → (next t ≡ next_pair (record { layer = correction; id = i; value = u })) × (next_steps m x (suc i) ≡ next_steps m x t)
    unfolding next_of_both next_from sooner
    take_correction j k v f h = (rw (e, f, le-leb i j (omega arith)) refl, pair_kept m x t i j k v (candidate_from c y t i n u e) h f)

    pub take_last_correction : next_steps m x t ≡ done no_candidate
        → (next t ≡ next_pair (record { layer = correction; id = i; value = u })) × (next_steps m x (suc i) ≡ next_steps m x t)
    unfolding next_of_both next_from sooner
    take_last_correction f = (rw (e, f) refl, still_none m x t i (candidate_from c y t i n u e) f)

    -- a tie: both are asked anew
    pub take_tie : (k : ℕ) (v : ℤ) → next_steps m x t ≡ done (candidate_at i k v) → next t ≡ next_pair (record { layer = correction; id = i; value = u })
    unfolding next_of_both next_from sooner
    take_tie k v f = rw (e, f, le-leb i i (omega arith)) refl

  module _ (j k : ℕ) (v : ℤ) (f : next_steps m x t ≡ done (candidate_at j k v)) where
    pub take_machine : (i n : ℕ) (u : ℤ) → next_steps c y t ≡ done (candidate_at i n u) → j < i
        → (next t ≡ next_pair (record { layer = machine; id = j; value = v })) × (next_steps c y (suc j) ≡ next_steps c y t)
    unfolding next_of_both next_from sooner
    take_machine i n u e h = (rw (e, f, lt-leb i j h) refl, pair_kept c y t j i n u (candidate_from m x t j k v f) h e)

    pub take_last_machine : next_steps c y t ≡ done no_candidate
        → (next t ≡ next_pair (record { layer = machine; id = j; value = v })) × (next_steps c y (suc j) ≡ next_steps c y t)
    unfolding next_of_both next_from sooner
    take_last_machine e = (rw (e, f) refl, still_none c y t j (candidate_from m x t j k v f) e)
