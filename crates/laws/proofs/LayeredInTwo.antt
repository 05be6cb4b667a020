-- The calls one after the other, on any bytes: a call with j + k places is one with j and then one with k from the last id + 1 on. A second call
-- that is refused adds no pair. Assumes nothing.
use Rattle.format.specs.Kit.{◌≡◌, refl, sym, ap, ◌∙◌, subst, true, false, List, ℕ, zero, suc, ◌+◌, suc-add, ◌≤◌, arith, leb, le-leb}
use Rattle.format.specs.Limits.{max_id}
use Rattle.format.specs.Refusals.{Outcome, done, refused, and_then, need}
use Rattle.format.specs.Editions.{Edition}
use Rattle.format.specs.Opening.{Opened, open_column}
use Rattle.format.specs.Next.{Candidate, candidate_at, no_candidate, next_steps}
use Rattle.format.specs.Layered.{machine, correction}
use Rattle.laws.proofs.Cases.{true_or, false_true}
use Rattle.format.specs.ReadFrom.{id_after}
use Rattle.format.specs.LayeredReading.{pair_ids, LayeredNext, next_from, sooner, next_of_both, LayeredReading, stopped}
use Rattle.format.specs.LayeredReading.{layered_steps, LayeredRead, read_to, refused_read, both_then, answering_from, column_from, read_layered}
use Rattle.format.specs.LayeredReading.{reading_of, joined_readings}
use Rattle.laws.proofs.LayeredReadings.{at_none, at_pair, at_full, at_refused, next_or, in_two, goes_on_within}

-- ---- the columns of a call that answers are opened

by_first : {A : Type 0} (o : Outcome A) (c y : Opened) → and_then o (λ first. done c) ≡ done y → c ≡ y
unfolding and_then
by_first (done a) c y e = cc
by_first (refused why w) c y e = absurd (let z : ◌≡◌ {A = ℕ} 0 1 = cc in omega arith)

by_opening : (bytes : List ℕ) (t : ℕ) (o : Outcome Opened) (y : Opened) → and_then o (answering_from bytes t) ≡ done y → o ≡ done y
unfolding and_then answering_from
by_opening bytes t (done c) y e = ap {B = Outcome Opened} (λ c. done c) (by_first (next_steps bytes c t) c y e)
by_opening bytes t (refused why w) y e = absurd (let z : ◌≡◌ {A = ℕ} 0 1 = cc in omega arith)

pub is_opened : (known : List Edition) (bytes : List ℕ) (t : ℕ) (y : Opened) → column_from known bytes t ≡ done y → open_column known bytes ≡ done y
unfolding column_from need
is_opened known bytes t y e =
    true_or (leb t max_id)
    (λ h. by_opening bytes t (open_column known bytes) y (rw h at e))
    (λ h. absurd (let f = rw h at e in let z : ◌≡◌ {A = ℕ} 0 1 = cc in omega arith))

both_are : {X : Type 0} (a b : Outcome Opened) (read : Opened → Opened → LayeredRead) (r : LayeredReading) → both_then a b read ≡ read_to r
    → ((y x : Opened) → a ≡ done y → b ≡ done x → read y x ≡ read_to r → X) → X
unfolding both_then
both_are (done y) (done x) read r e f = f y x refl refl e
both_are (done y) (refused why w) read r e f = absurd (let z : ◌≡◌ {A = ℕ} 0 1 = cc in omega arith)
both_are (refused why w) b read r e f = absurd (let z : ◌≡◌ {A = ℕ} 0 1 = cc in omega arith)

-- ---- a call on opened columns is their steps

module _ (m : List ℕ) (x : Opened) (c : List ℕ) (y : Opened) (t k : ℕ) where
  abbrev call : Outcome Candidate → Outcome Candidate → LayeredRead
  call a b =
      both_then (and_then a (λ first. done y)) (and_then b (λ first. done x)) (λ y x. read_to (layered_steps (next_of_both m x c y) k t))

  by_steps : (a b : Outcome Candidate) → next_steps c y t ≡ a → next_steps m x t ≡ b → reading_of (call a b) ≡ layered_steps (next_of_both m x c y) k t
  unfolding reading_of both_then and_then next_of_both next_from sooner
  by_steps (done a) (done b) e f = refl
  by_steps (done (candidate_at i o v)) (refused why w) e f = sym (at_refused (next_of_both m x c y) k t machine why w (rw (e, f) refl))
  by_steps (done no_candidate) (refused why w) e f = sym (at_refused (next_of_both m x c y) k t machine why w (rw (e, f) refl))
  by_steps (refused why w) b e f = sym (at_refused (next_of_both m x c y) k t correction why w (rw e refl))

  reading_is : (known : List Edition) → t ≤ max_id → open_column known m ≡ done x → open_column known c ≡ done y
      → reading_of (read_layered known m c t k) ≡ layered_steps (next_of_both m x c y) k t
  unfolding read_layered column_from answering_from need and_then
  reading_is known h ex ey = rw (le-leb t max_id h, ex, ey) (by_steps (next_steps c y t) (next_steps m x t) refl refl)

-- more room changes nothing at the end
more_room : (next : ℕ → LayeredNext) (j k t : ℕ) → (layered_steps next j t).ended ≡ true → layered_steps next (j + k) t ≡ layered_steps next j t
more_room next zero k t e =
    next_or next t
    (λ p f. false_true (sym (ap (λ (a : LayeredReading). a.ended) (at_full next t p f)) ∙ e))
    (λ f. at_none next (0 + k) t f ∙ sym (at_none next 0 t f))
    (λ l why w f. false_true (sym (ap (λ (a : LayeredReading). a.ended) (at_refused next 0 t l why w f)) ∙ e))
more_room next (suc j) k t e =
    next_or next t
    (λ p f.
    let s = at_pair next j t p f in
    rw (suc-add j k, at_pair next (j + k) t p f, s, more_room next j k (suc p.id) (sym (ap (λ (a : LayeredReading). a.ended) s) ∙ e)) refl)
    (λ f. at_none next (suc j + k) t f ∙ sym (at_none next (suc j) t f))
    (λ l why w f. at_refused next (suc j + k) t l why w f ∙ sym (at_refused next (suc j) t l why w f))

call_is : (known : List Edition) (m c : List ℕ) (t n : ℕ) (y x : Opened) → column_from known c t ≡ done y → column_from known m t ≡ done x
    → read_layered known m c t n ≡ read_to (layered_steps (next_of_both m x c y) n t)
unfolding read_layered both_then
call_is known m c t n y x ey ex = rw (ey, ex) refl

module _ (known : List Edition) (m c : List ℕ) (t j k : ℕ) (a : LayeredReading) (e : read_layered known m c t j ≡ read_to a) where
  by_columns : {X : Type 0}
      → ((y x : Opened) → column_from known c t ≡ done y → column_from known m t ≡ done x → layered_steps (next_of_both m x c y) j t ≡ a → X) → X
  unfolding read_layered reading_of
  by_columns f = both_are (column_from known c t) (column_from known m t) _ a e (λ y x ey ex s. f y x ey ex (ap reading_of s))

  abbrev target : ℕ
  target = id_after t (pair_ids a.pairs)

  -- where the first is not at its end, the second is asked from a target within the limit,
  pub calls_within : a.ended ≡ false → target ≤ max_id
  calls_within f =
      by_columns (λ y x ey ex r.
      subst (λ (a : LayeredReading). id_after t (pair_ids a.pairs) ≤ max_id) r (goes_on_within m x c y j t (ap (λ (a : LayeredReading). a.ended) r ∙ f)))

  -- and the two are one
  pub calls_in_two : a.ended ≡ false → read_layered known m c t (j + k) ≡ read_to (joined_readings a (reading_of (read_layered known m c target k)))
  calls_in_two f =
      by_columns (λ y x ey ex r.
      let two : layered_steps (next_of_both m x c y) (j + k) t ≡ joined_readings a (layered_steps (next_of_both m x c y) k target) =
      subst (λ (a : LayeredReading). layered_steps (next_of_both m x c y) (j + k) t ≡ joined_readings a (layered_steps (next_of_both m x c y) k (id_after t
      (pair_ids a.pairs))))
      r (in_two (next_of_both m x c y) j k t) in
      let on = reading_is m x c y target k known (calls_within f) (is_opened known m t x ex) (is_opened known c t y ey) in
      call_is known m c t (j + k) y x ey ex
      ∙ ap {B = LayeredRead} (λ r. read_to r) (two ∙ ap (λ (b : LayeredReading). joined_readings a b) (sym on)))

  -- one that is at its end has all that any room would give
  pub ends : a.ended ≡ true → read_layered known m c t (j + k) ≡ read_to a
  ends f =
      by_columns (λ y x ey ex r.
      call_is known m c t (j + k) y x ey ex
      ∙ ap {B = LayeredRead} (λ r. read_to r) (more_room (next_of_both m x c y) j k t (ap (λ (a : LayeredReading). a.ended) r ∙ f) ∙ r))
