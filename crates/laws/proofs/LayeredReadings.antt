-- Readings on any bytes: one of j + k places is one of j and then one of k from the last id + 1 on; it goes only by what each target is
-- answered_next; and where it is not at its end, the last id + 1 is within the limit. Assumes nothing.
use Rattle.format.specs.Kit.{◌≡◌, refl, sym, ap, ◌∙◌, true, false, List, [], ℕ, zero, suc, ◌+◌, ◌-◌, ◌≤◌, zero-add, suc-add, arith}
use Rattle.format.specs.Limits.{max_id}
use Rattle.format.specs.Refusals.{done}
use Rattle.format.specs.Opening.{Opened}
use Rattle.format.specs.Next.{no_candidate, in_turn, next_steps}
use Rattle.laws.proofs.Cases.{below_or, false_true}
use Rattle.format.specs.ReadFrom.{id_after}
use Rattle.format.specs.LayeredReading.{LayeredPair, pair_ids, LayeredNext, next_pair, no_pair, refused_next, next_from, sooner, next_of_both, LayeredReading}
use Rattle.format.specs.LayeredReading.{stopped, layered_then, none_next, steps_on, layered_steps, joined_readings}

module _ (next : ℕ → LayeredNext) where
  pub at_none : (k t : ℕ) → next t ≡ no_pair → layered_steps next k t ≡ stopped true
  unfolding layered_steps steps_on none_next
  at_none zero t e = rw e refl
  at_none (suc k) t e = rw e refl

  pub at_refused : (k t : ℕ) (layer : _) (why w : ℕ) → next t ≡ refused_next layer why w → layered_steps next k t ≡ stopped false
  unfolding layered_steps steps_on none_next
  at_refused zero t layer why w e = rw e refl
  at_refused (suc k) t layer why w e = rw e refl

  pub at_pair : (k t : ℕ) (p : LayeredPair) → next t ≡ next_pair p → layered_steps next (suc k) t ≡ layered_then p (layered_steps next k (suc p.id))
  unfolding layered_steps steps_on
  at_pair k t p e = rw e refl

  pub at_full : (t : ℕ) (p : LayeredPair) → next t ≡ next_pair p → layered_steps next 0 t ≡ stopped false
  unfolding layered_steps none_next
  at_full t p e = rw e refl

  no_place : (t : ℕ) → (layered_steps next 0 t).pairs ≡ []
  unfolding layered_steps
  no_place t = refl

  -- what a target is answered_next, with its equation
  pub next_or : {X : Type 0} (t : ℕ) → ((p : LayeredPair) → next t ≡ next_pair p → X) → (next t ≡ no_pair → X)
      → ((layer : _) (why w : ℕ) → next t ≡ refused_next layer why w → X) → X
  next_or {X} t f g h = go (next t) refl
    where
      go : (o : LayeredNext) → next t ≡ o → X
      go (next_pair p) e = f p e
      go no_pair e = g e
      go (refused_next layer why w) e = h layer why w e

  pub in_two : (j k t : ℕ) → layered_steps next (j + k) t ≡ joined_readings (layered_steps next j t) (layered_steps next k (id_after t (pair_ids
      (layered_steps next j t).pairs)))
  unfolding id_after
  in_two zero k t = rw (zero-add k, no_place t) refl
  in_two (suc j) k t =
      next_or t
      (λ p e. rw (suc-add j k, at_pair (j + k) t p e, at_pair j t p e, in_two j k (suc p.id)) refl)
      (λ e. rw (suc-add j k, at_none (suc (j + k)) t e, at_none (suc j) t e, at_none k t e) refl)
      (λ l why w e. rw (suc-add j k, at_refused (suc (j + k)) t l why w e, at_refused (suc j) t l why w e, at_refused k t l why w e) refl)

-- ---- two columns

module _ (m : List ℕ) (x : Opened) (c : List ℕ) (y : Opened) where
  abbrev next : ℕ → LayeredNext
  next = next_of_both m x c y

  -- above the greatest id there is none
  none_above : (bytes : List ℕ) (o : Opened) (t : ℕ) → suc max_id ≤ t → next_steps bytes o t ≡ done no_candidate
  unfolding next_steps in_turn
  none_above bytes o t h = let e : suc max_id - t ≡ 0 = omega arith in rw e refl

  within : (t : ℕ) → (next t ≡ no_pair → ⊥) → t ≤ max_id
  unfolding next_of_both next_from sooner
  within t f = below_or max_id t (λ l. absurd (f (rw (none_above c y t l, none_above m x t l) refl))) (λ l. l)

  pub goes_on_within : (k t : ℕ) → (layered_steps next k t).ended ≡ false → id_after t (pair_ids (layered_steps next k t).pairs) ≤ max_id
  unfolding id_after none_next
  goes_on_within zero t e = rw (no_place next t) (within t (λ f. false_true (sym e ∙ ap (λ (r : LayeredReading). r.ended) (at_none next 0 t f))))
  goes_on_within (suc k) t e =
      next_or next t
      (λ p f. let r = at_pair next k t p f in rw r (goes_on_within k (suc p.id) (sym (ap (λ (r : LayeredReading). r.ended) r) ∙ e)))
      (λ f. false_true (sym e ∙ ap (λ (r : LayeredReading). r.ended) (at_none next (suc k) t f)))
      (λ l why w f. rw (at_refused next (suc k) t l why w f) (within t (λ g. false_true (sym (ap none_next f) ∙ ap none_next g))))
