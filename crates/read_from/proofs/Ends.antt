-- The end of a reading: where it stops, its lists and its reply. Assumes nothing.
use Rattle.format.specs.Kit.{◌≡◌, refl, sym, ap, ◌∙◌, inl, inr, ◌⊎◌, true, List, ◌++◌, ℕ, zero, suc, ◌-◌, ◌≤◌, ◌<◌, arith, ℤ, length, drop}
use Rattle.format.specs.Refusals.{Outcome, done, refused, and_then}
use Rattle.answers.specs.declared.Refusal.{Refusal}
use Rattle.answers.specs.Replies.{refused_as}
use Rattle.format.specs.Opening.{Opened}
use Rattle.format.specs.Next.{Candidate, no_candidate, next_steps}
use Rattle.laws.proofs.Stores.{filled, reached, sets_front}
use Rattle.format.specs.ReadFrom.{Readout, no_more, answered, is_none, goes_on, pairs_from, read_steps}
use Rattle.read_in_block.specs.Parts.{Reads}

module _ (bytes : List ℕ) (c : Opened) (t : ℕ) where
  -- no place is left, or nothing to put there
  pub stops_full : (k : ℕ) → k ≡ 0 → pairs_from k bytes c t ≡ no_more (is_none (next_steps bytes c t))
  unfolding pairs_from
  stops_full k e = rw e refl

  pub stops_none : (k : ℕ) → next_steps bytes c t ≡ done no_candidate → pairs_from k bytes c t ≡ no_more (is_none (next_steps bytes c t))
  unfolding pairs_from goes_on is_none
  stops_none zero e = refl
  stops_none (suc k) e = rw e refl

  pub stops_refused : (k : ℕ) (why : Refusal) → next_steps bytes c t ≡ refused_as why
      → pairs_from k bytes c t ≡ no_more (is_none (next_steps bytes c t))
  unfolding pairs_from goes_on is_none
  stops_refused zero why e = refl
  stops_refused (suc k) why e = rw e refl

-- the call answers as soon as the first candidate is no refusal
pub answers_so : (o : Outcome Candidate) (w : Readout) → answered o ≡ true → and_then o (λ x. done w) ≡ done w
unfolding and_then answered
answers_so (done x) w e = refl
answers_so (refused why x) w e = absurd (let z : ◌≡◌ {A = ℕ} 0 1 = cc in omega arith)

module _ (bytes : List ℕ) (c : Opened) (room t : ℕ) (ids : List ℕ) (vs : List ℤ) (i t' : ℕ) (ids' : List ℕ) (vs' : List ℤ)
    (w : Reads bytes c room 0 t ids vs i t' ids' vs') where
  -- the first candidate is refused
  pub refuses : (why : Refusal) → i ≡ 0 → next_steps bytes c t' ≡ refused_as why → read_steps bytes c t room ≡ refused_as why
  unfolding read_steps and_then
  refuses why e f = rw (sym (w.none (sym e)) ∙ f) refl

  -- it is not
  pub answers : (0 < i) ⊎ (answered (next_steps bytes c t') ≡ true) → read_steps bytes c t room ≡ done (pairs_from room bytes c t)
  unfolding read_steps
  answers (inl h) = answers_so (next_steps bytes c t) _ (w.some h)
  answers (inr h) = answers_so (next_steps bytes c t) _ (go i refl)
    where
      go : (j : ℕ) → i ≡ j → answered (next_steps bytes c t) ≡ true
      go zero e = ap answered (sym (w.none (sym e))) ∙ h
      go (suc j) e = w.some (omega arith)

  module _ (s : pairs_from (room - i) bytes c t' ≡ no_more (is_none (next_steps bytes c t'))) where
    abbrev whole : Readout
    whole = pairs_from room bytes c t

    all_places : room - 0 ≡ room
    all_places = omega arith

    pub how_many : length whole.ids ≡ i
    how_many =
        let e = reached _ _ _ _ _ _ w.in_ids (ap (λ (x : Readout). x.ids) s) in
        omega (arith, rw all_places at e)

    pub many_values : length whole.values ≡ i
    many_values =
        let e = reached _ _ _ _ _ _ w.in_values (ap (λ (x : Readout). x.values) s) in
        omega (arith, rw all_places at e)

    pub at_end : whole.ended ≡ is_none (next_steps bytes c t')
    at_end = let e = rw all_places at w.ended in sym e ∙ ap (λ (x : Readout). x.ended) s

    pub ids_after_is : room ≤ length ids → ids' ≡ whole.ids ++ drop (length whole.ids) ids
    ids_after_is h =
        let e = filled _ _ _ _ _ _ w.in_ids (ap (λ (x : Readout). x.ids) s) in
        (rw all_places at e) ∙ sets_front ids whole.ids (omega (arith, how_many, w.most))

    pub values_after_is : room ≤ length vs → vs' ≡ whole.values ++ drop (length whole.values) vs
    values_after_is h =
        let e = filled _ _ _ _ _ _ w.in_values (ap (λ (x : Readout). x.values) s) in
        (rw all_places at e) ∙ sets_front vs whole.values (omega (arith, many_values, w.most))
