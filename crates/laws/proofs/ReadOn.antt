-- On any bytes: j + k pairs are j pairs and then k from the last id + 1 on; and where a listed id is left, that one is within the limit. Assumes nothing.
use Rattle.format.specs.Kit.{◌≡◌, refl, sym, ap, ◌∙◌, true, false, List, [], ℕ, zero, suc, ◌+◌, ◌-◌, ◌≤◌, zero-add, suc-add, arith, ℤ}
use Rattle.format.specs.Limits.{max_id}
use Rattle.format.specs.Refusals.{Outcome, done, refused}
use Rattle.format.specs.Opening.{Opened}
use Rattle.format.specs.Next.{Candidate, candidate_at, no_candidate, in_turn, next_steps}
use Rattle.laws.proofs.Cases.{below_or, false_true}
use Rattle.format.specs.ReadFrom.{Readout, no_more, answered, pair_then, joined, id_after, is_none, goes_on, pairs_from}

module _ (bytes : List ℕ) (c : Opened) where
  -- where the first candidate is none, or is refused
  at_none : (k t : ℕ) → next_steps bytes c t ≡ done no_candidate → pairs_from k bytes c t ≡ no_more true
  unfolding pairs_from goes_on is_none
  at_none zero t e = rw e refl
  at_none (suc k) t e = rw e refl

  at_refused : (k t why w : ℕ) → next_steps bytes c t ≡ refused why w → pairs_from k bytes c t ≡ no_more false
  unfolding pairs_from goes_on is_none
  at_refused zero t why w e = rw e refl
  at_refused (suc k) t why w e = rw e refl

  at_id : (k t id o : ℕ) (v : ℤ) → next_steps bytes c t ≡ done (candidate_at id o v) → pairs_from (suc k) bytes c t ≡ pair_then id v (pairs_from k bytes c (suc id))
  unfolding pairs_from goes_on
  at_id k t id o v e = rw e refl

  none_first : (t : ℕ) → (pairs_from 0 bytes c t).ids ≡ []
  unfolding pairs_from
  none_first t = refl

  none_value : (t : ℕ) → (pairs_from 0 bytes c t).values ≡ []
  unfolding pairs_from
  none_value t = refl

  -- what the first candidate is, with its equation
  first_or : {X : Type 0} (t : ℕ) → ((id o : ℕ) (v : ℤ) → next_steps bytes c t ≡ done (candidate_at id o v) → X) → (next_steps bytes c t ≡ done no_candidate → X)
      → ((why w : ℕ) → next_steps bytes c t ≡ refused why w → X) → X
  first_or {X} t f g h = go (next_steps bytes c t) refl
    where
      go : (o : Outcome Candidate) → next_steps bytes c t ≡ o → X
      go (done (candidate_at id o v)) e = f id o v e
      go (done no_candidate) e = g e
      go (refused why w) e = h why w e

  pub in_two : (j k t : ℕ) → pairs_from (j + k) bytes c t ≡ joined (pairs_from j bytes c t) (pairs_from k bytes c (id_after t (pairs_from j bytes c t).ids))
  unfolding id_after
  in_two zero k t = rw (zero-add k, none_first t, none_value t) refl
  in_two (suc j) k t =
      first_or t
      (λ id o v e. rw (suc-add j k, at_id (j + k) t id o v e, at_id j t id o v e, in_two j k (suc id)) refl)
      (λ e. rw (suc-add j k, at_none (suc (j + k)) t e, at_none (suc j) t e, at_none k t e) refl)
      (λ why w e. rw (suc-add j k, at_refused (suc (j + k)) t why w e, at_refused (suc j) t why w e, at_refused k t why w e) refl)

  -- above the greatest id there is none
  within : (t : ℕ) → (next_steps bytes c t ≡ done no_candidate → ⊥) → t ≤ max_id
  unfolding next_steps in_turn
  within t f = below_or max_id t (λ l. absurd (f (let e : suc max_id - t ≡ 0 = omega arith in rw e refl))) (λ l. l)

  pub goes_on_within : (k t : ℕ) → (pairs_from k bytes c t).ended ≡ false → id_after t (pairs_from k bytes c t).ids ≤ max_id
  unfolding id_after answered
  goes_on_within zero t e = rw (none_first t) (within t (λ f. false_true (sym e ∙ ap (λ (w : Readout). w.ended) (at_none 0 t f))))
  goes_on_within (suc k) t e =
      first_or t
      (λ id o v f. let w = at_id k t id o v f in rw w (goes_on_within k (suc id) (sym (ap (λ (x : Readout). x.ended) w) ∙ e)))
      (λ f. false_true (sym e ∙ ap (λ (w : Readout). w.ended) (at_none (suc k) t f)))
      (λ why w f. rw (at_refused (suc k) t why w f) (within t (λ g. false_true (sym (ap answered f) ∙ ap answered g))))
