-- How a layered reading ends: with one column alone, full, or at a refusal; and what the call then leaves. Assumes nothing.
use Rattle.format.specs.Kit.{◌≡◌, refl, sym, ap, ◌∙◌, ◌⊎◌, inl, inr, Bool, true, false, List, ◌∷◌, ◌++◌, map, ℕ, zero, suc, ◌-◌, ◌≤◌, ◌<◌}
use Rattle.format.specs.Kit.{arith, ℤ, length, length-map, drop, sets, replicate, leb}
use Rattle.format.specs.Refusals.{Outcome, done, refused, and_then}
use Rattle.format.specs.Opening.{Opened}
use Rattle.format.specs.Next.{Candidate, candidate_at, no_candidate, next_steps}
use Rattle.format.specs.ReadFrom as Rf
use Rattle.format.specs.ReadFrom.{pairs_from}
use Rattle.format.specs.Layered.{Layer, machine, correction}
use Rattle.laws.proofs.Cases.{below_or, true_or, false_true}
use Rattle.laws.proofs.Stores.{filled, sets_front}
use Rattle.format.specs.Layered.{layer_number}
use Rattle.format.specs.LayeredReading.{LayeredPair, LayeredNext, next_pair, no_pair, refused_next, next_from, sooner, next_of_both, LayeredReading}
use Rattle.format.specs.LayeredReading.{stopped, none_next, layered_steps, LayeredRead, read_to, refused_read, both_then, answering_from, layered_read_after}
use Rattle.format.specs.LayeredReading.{pair_id, pair_value, pair_column}
use Rattle.layered_reading.specs.Turns.{answered_next, Puts, LayeredReads}
use Rattle.layered_reading.specs.Parts.{Alone, Stopped, Refuses, read_layered_steps}
use Rattle.laws.proofs.LayeredReadings.{at_none, at_pair, at_refused}
use Rattle.laws.proofs.NextKept.{candidate_from, still_none}

-- ---- one column alone

none_alike : (layer : Layer) (o : Outcome Candidate) → none_next (next_from layer o) ≡ Rf.is_none o
unfolding none_next next_from Rf.is_none
none_alike layer (done (candidate_at i n v)) = refl
none_alike layer (done no_candidate) = refl
none_alike layer (refused why w) = refl

-- one column's pairs, by its next candidate
module _ (bytes : List ℕ) (c : Opened) (k t : ℕ) where
  pub read_pair : (i n : ℕ) (v : ℤ) → next_steps bytes c t ≡ done (candidate_at i n v)
      → pairs_from (suc k) bytes c t ≡ Rf.pair_then i v (pairs_from k bytes c (suc i))
  unfolding pairs_from Rf.goes_on
  read_pair i n v e = rw e refl

  pub read_none : next_steps bytes c t ≡ done no_candidate → pairs_from k bytes c t ≡ Rf.no_more true
  unfolding pairs_from Rf.goes_on Rf.is_none
  read_none e = go k
    where
      go : (j : ℕ) → pairs_from j bytes c t ≡ Rf.no_more true
      go zero = rw e refl
      go (suc j) = rw e refl

  pub read_refused : (why w : ℕ) → next_steps bytes c t ≡ refused why w → pairs_from k bytes c t ≡ Rf.no_more false
  unfolding pairs_from Rf.goes_on Rf.is_none
  read_refused why w e = go k
    where
      go : (j : ℕ) → pairs_from j bytes c t ≡ Rf.no_more false
      go zero = rw e refl
      go (suc j) = rw e refl

-- `Q` says of a target that the other column has no pair from there on
module _ (layer : Layer) (next : ℕ → LayeredNext) (bytes : List ℕ) (c : Opened) (Q : ℕ → Type 0)
    (at : (t : ℕ) → Q t → next t ≡ next_from layer (next_steps bytes c t))
    (on : (t id n : ℕ) (v : ℤ) → Q t → next_steps bytes c t ≡ done (candidate_at id n v) → Q (suc id)) where
  record Same (k t : ℕ) : Type 0 where
    ids : map pair_id (layered_steps next k t).pairs ≡ (pairs_from k bytes c t).ids
    values : map pair_value (layered_steps next k t).pairs ≡ (pairs_from k bytes c t).values
    columns : map pair_column (layered_steps next k t).pairs ≡ replicate (length (pairs_from k bytes c t).ids) (layer_number layer)
    ended : (layered_steps next k t).ended ≡ (pairs_from k bytes c t).ended

  one_step : (layer : Layer) (i n : ℕ) (v : ℤ) (o : Outcome Candidate) → o ≡ done (candidate_at i n v)
      → next_from layer o ≡ next_pair (record { layer = layer; id = i; value = v })
  unfolding next_from
  one_step layer i n v o e = rw e refl

  by_pair : (k t i n : ℕ) (v : ℤ) → Q t → next_steps bytes c t ≡ done (candidate_at i n v) → Same k (suc i) → Same (suc k) t
  by_pair k t i n v q e s =
      let p = at_pair next k t (record { layer = layer; id = i; value = v }) (at t q ∙ one_step layer i n v _ e) in
      let f = read_pair bytes c k t i n v e in
      record {
        ids = ap (λ (r : LayeredReading). map pair_id r.pairs) p ∙ ap (λ (l : List ℕ). i ∷ l) s.ids ∙ sym (ap (λ (r : Rf.Readout). r.ids) f);
        values = ap (λ (r : LayeredReading). map pair_value r.pairs) p ∙ ap (λ (l : List ℤ). v ∷ l) s.values
            ∙ sym (ap (λ (r : Rf.Readout). r.values) f);
        columns = ap (λ (r : LayeredReading). map pair_column r.pairs) p ∙ ap (λ (l : List ℕ). layer_number layer ∷ l) s.columns
            ∙ sym (ap (λ (r : Rf.Readout). replicate (length r.ids) (layer_number layer)) f);
        ended = ap (λ (r : LayeredReading). r.ended) p ∙ s.ended ∙ sym (ap (λ (r : Rf.Readout). r.ended) f);
      }

  by_end : (k t : ℕ) (e : Bool) → layered_steps next k t ≡ stopped e → pairs_from k bytes c t ≡ Rf.no_more e → Same k t
  by_end k t e p f =
      record {
        ids = ap (λ (r : LayeredReading). map pair_id r.pairs) p ∙ sym (ap (λ (r : Rf.Readout). r.ids) f);
        values = ap (λ (r : LayeredReading). map pair_value r.pairs) p ∙ sym (ap (λ (r : Rf.Readout). r.values) f);
        columns = ap (λ (r : LayeredReading). map pair_column r.pairs) p ∙ sym (ap (λ (r : Rf.Readout). replicate (length r.ids) (layer_number layer)) f);
        ended = ap (λ (r : LayeredReading). r.ended) p ∙ sym (ap (λ (r : Rf.Readout). r.ended) f);
      }

  no_places : (t : ℕ) → Q t → Same 0 t
  unfolding layered_steps pairs_from
  no_places t q = record { ids = refl; values = refl; columns = refl; ended = ap none_next (at t q) ∙ none_alike layer (next_steps bytes c t) }

  ends_at : (k t : ℕ) (o : Outcome Candidate) → Q t → next_steps bytes c t ≡ o → ((i n : ℕ) (v : ℤ) → o ≡ done (candidate_at i n v) → Same k t) → Same k t
  unfolding next_from
  ends_at k t (done (candidate_at i n v)) q e f = f i n v refl
  ends_at k t (done no_candidate) q e f = by_end k t true (at_none next k t (at t q ∙ ap (next_from layer) e)) (read_none bytes c k t e)
  ends_at k t (refused why w) q e f = by_end k t false (at_refused next k t layer why w (at t q ∙ ap (next_from layer) e)) (read_refused bytes c k t why w e)

  same : (k t : ℕ) → Q t → Same k t
  same zero t q = no_places t q
  same (suc k) t q = ends_at (suc k) t (next_steps bytes c t) q refl (λ i n v e. by_pair k t i n v q e (same k (suc i) (on t i n v q e)))

  alone : (t : ℕ) → Q t → Alone layer next bytes c t
  alone t q =
      record {
        here = at t q;
        ids = λ k. (same k t q).ids;
        values = λ k. (same k t q).values;
        columns = λ k. (same k t q).columns;
        ended = λ k. (same k t q).ended;
      }

module _ (m : List ℕ) (x : Opened) (c : List ℕ) (y : Opened) where
  abbrev next : ℕ → LayeredNext
  next = next_of_both m x c y

  lower_at : (t : ℕ) → next_steps c y t ≡ done no_candidate → next t ≡ next_from machine (next_steps m x t)
  unfolding next_of_both sooner next_from
  lower_at t e = rw e refl

  upper_or : (o : Outcome Candidate) → sooner (next_from correction o) no_pair ≡ next_from correction o
  unfolding sooner next_from
  upper_or (done (candidate_at i n v)) = refl
  upper_or (done no_candidate) = refl
  upper_or (refused why w) = refl

  upper_at : (t : ℕ) → next_steps m x t ≡ done no_candidate → next t ≡ next_from correction (next_steps c y t)
  unfolding next_of_both next_from
  upper_at t e = rw e (upper_or (next_steps c y t))

  -- the correction has no pair from t on
  pub machine_alone : (t : ℕ) → next_steps c y t ≡ done no_candidate → Alone machine next m x t
  machine_alone =
      alone machine next m x (λ t. next_steps c y t ≡ done no_candidate) lower_at
      (λ t id n v q e. still_none c y t id (candidate_from m x t id n v e) q ∙ q)

  -- the machine column has none
  pub correction_alone : (t : ℕ) → next_steps m x t ≡ done no_candidate → Alone correction next c y t
  correction_alone =
      alone correction next c y (λ t. next_steps m x t ≡ done no_candidate) upper_at
      (λ t id n v q e. still_none m x t id (candidate_from c y t id n v e) q ∙ q)

  -- ---- both columns' steps

  abbrev of_both : Outcome Candidate → Outcome Candidate → LayeredNext
  of_both a b = sooner (next_from correction a) (next_from machine b)

  -- a refusal by the correction, and one by the machine column where the correction has none
  pub upper_refused : (t why w : ℕ) → next_steps c y t ≡ refused why w → next t ≡ refused_next correction why w
  unfolding next_of_both sooner next_from
  upper_refused t why w e = rw e refl

  pub lower_refused : (t why w : ℕ) → Rf.answered (next_steps c y t) ≡ true → next_steps m x t ≡ refused why w → next t ≡ refused_next machine why w
  unfolding next_of_both sooner next_from Rf.answered
  lower_refused t why w a e = rw e (go (next_steps c y t) a)
    where
      go : (o : Outcome Candidate) → Rf.answered o ≡ true → of_both o (refused why w) ≡ refused_next machine why w
      go (done (candidate_at i n v)) f = refl
      go (done no_candidate) f = refl
      go (refused n v) f = false_true f

  -- two answers make one, and two pairs a pair
  both_answer : (a b : Candidate) → answered_next (of_both (done a) (done b)) ≡ true
  unfolding answered_next sooner next_from
  both_answer (candidate_at i o v) (candidate_at j n u) = true_or (leb i j) (λ h. rw h refl) (λ h. rw h refl)
  both_answer (candidate_at i o v) no_candidate = refl
  both_answer no_candidate (candidate_at j n u) = refl
  both_answer no_candidate no_candidate = refl

  pub answered_both : (t : ℕ) → Rf.answered (next_steps c y t) ≡ true → Rf.answered (next_steps m x t) ≡ true → answered_next (next t) ≡ true
  unfolding next_of_both Rf.answered
  answered_both t = go (next_steps c y t) (next_steps m x t)
    where
      go : (a b : Outcome Candidate) → Rf.answered a ≡ true → Rf.answered b ≡ true → answered_next (of_both a b) ≡ true
      go (done a) (done b) e f = both_answer a b
      go (done a) (refused n v) e f = false_true f
      go (refused n v) b e f = false_true e

  both_there : (a b : Outcome Candidate) → Rf.is_none a ≡ false → none_next (of_both a b) ≡ false
  unfolding none_next sooner next_from Rf.is_none
  both_there (done (candidate_at i o v)) (done (candidate_at j n u)) e = true_or (leb i j) (λ h. rw h refl) (λ h. rw h refl)
  both_there (done (candidate_at i o v)) (done no_candidate) e = refl
  both_there (done (candidate_at i o v)) (refused n u) e = refl
  both_there (done no_candidate) b e = false_true (sym e)
  both_there (refused why w) b e = refl

  pub not_at_end : (t : ℕ) → Rf.is_none (next_steps c y t) ≡ false → none_next (next t) ≡ false
  unfolding next_of_both
  not_at_end t = both_there (next_steps c y t) (next_steps m x t)

  -- ---- the call, by its first step

  module _ (t room : ℕ) where
    abbrev whole : LayeredReading
    whole = layered_steps next room t

    call : (a b : Outcome Candidate) → LayeredRead
    call a b = both_then (and_then a (λ first. done y)) (and_then b (λ first. done x)) (λ y x. read_to (layered_steps (next_of_both m x c y) room t))

    by_answer : (a b : Outcome Candidate) → answered_next (of_both a b) ≡ true → call a b ≡ read_to whole
    unfolding call both_then and_then answered_next sooner next_from
    by_answer (done a) (done b) e = refl
    by_answer (done (candidate_at i o v)) (refused why w) e = false_true e
    by_answer (done no_candidate) (refused why w) e = false_true e
    by_answer (refused why w) b e = false_true e

    pub steps_read : answered_next (next t) ≡ true → read_layered_steps m x c y t room ≡ read_to whole
    unfolding answering_from next_of_both call
    steps_read = by_answer (next_steps c y t) (next_steps m x t)

    told : LayeredNext → LayeredRead
    told (refused_next a b d) = refused_read a b d
    told no_pair = read_to whole
    told (next_pair p) = read_to whole

    by_refusal : (a b : Outcome Candidate) (l : Layer) (why w : ℕ) → of_both a b ≡ refused_next l why w → call a b ≡ refused_read l why w
    unfolding call both_then and_then sooner next_from told answered_next
    by_refusal (done a) (done b) l why w e = false_true (sym (ap answered_next e) ∙ both_answer a b)
    by_refusal (done (candidate_at i o v)) (refused n u) l why w e = ap told e
    by_refusal (done no_candidate) (refused n u) l why w e = ap told e
    by_refusal (refused n u) b l why w e = ap told e

    pub steps_refused : (l : Layer) (why w : ℕ) → next t ≡ refused_next l why w → read_layered_steps m x c y t room ≡ refused_read l why w
    unfolding answering_from next_of_both call
    steps_refused = by_refusal (next_steps c y t) (next_steps m x t)

-- ---- the end of a part is the end of the whole

module _ (next : ℕ → LayeredNext) (room t : ℕ) (ids : List ℕ) (vs : List ℤ) (cs : List ℕ) where
  all_places : room - 0 ≡ room
  all_places = omega arith

  module _ (i u : ℕ) (ids₁ : List ℕ) (vs₁ : List ℤ) (cs₁ : List ℕ) (r : LayeredReads next room 0 t ids vs cs i u ids₁ vs₁ cs₁) where
    first_answered : (0 < i) ⊎ (answered_next (next u) ≡ true) → answered_next (next t) ≡ true
    first_answered (inl h) = r.some h
    first_answered (inr h) = below_or 0 i r.some (λ l. ap answered_next (sym (r.none (omega arith))) ∙ h)

    pub stopped_then : (n : ℕ) (e : Bool) (ids' : List ℕ) (vs' : List ℤ) (cs' : List ℕ) → Stopped next room i u ids₁ vs₁ cs₁ n e ids' vs' cs'
        → Stopped next room 0 t ids vs cs n e ids' vs' cs'
    stopped_then n e ids' vs' cs' s =
        record {
          in_ids = s.in_ids ∙ r.in_ids.same;
          in_values = s.in_values ∙ r.in_values.same;
          in_columns = s.in_columns ∙ r.in_columns.same;
          count = omega (
            arith,
            s.count,
            r.in_ids.next,
            length-map (layered_steps next (room - i) u).pairs pair_id,
            length-map (layered_steps next (room - 0) t).pairs pair_id,
          );
          ended = sym r.ended ∙ s.ended;
          starts = inr (first_answered s.starts);
        }

    -- nothing was stored before a refusal
    unmoved : {A : Type 0} (f : LayeredPair → A) (l l₁ : List A) → Puts f next room 0 t l i u l₁ → (layer : Layer) (why w : ℕ) → i ≡ 0
        → next u ≡ refused_next layer why w → l₁ ≡ l
    unmoved f l l₁ p layer why w z e =
        let here = at_refused next (room - i) u layer why w e in
        let there = at_refused next (room - 0) t layer why w (sym (r.none (sym z)) ∙ e) in
        filled _ _ _ _ _ _ p (ap (λ (a : LayeredReading). map f a.pairs) here) ∙ ap (λ (a : LayeredReading). sets l 0 (map f a.pairs)) there

    pub refuses_then : (layer : Layer) (why w : ℕ) (ids' : List ℕ) (vs' : List ℤ) (cs' : List ℕ) → Refuses next i u layer why w ids₁ ids' vs₁ vs' cs₁ cs'
        → Refuses next 0 t layer why w ids ids' vs vs' cs cs'
    refuses_then layer why w ids' vs' cs' s =
        record {
          first = refl;
          refusal = sym (r.none (sym s.first)) ∙ s.refusal;
          in_ids = s.in_ids ∙ unmoved pair_id ids ids₁ r.in_ids layer why w s.first s.refusal;
          in_values = s.in_values ∙ unmoved pair_value vs vs₁ r.in_values layer why w s.first s.refusal;
          in_columns = s.in_columns ∙ unmoved pair_column cs cs₁ r.in_columns layer why w s.first s.refusal;
        }

  -- ---- the lists of a whole reading

  module _ (n : ℕ) (e : Bool) (ids' : List ℕ) (vs' : List ℤ) (cs' : List ℕ) (s : Stopped next room 0 t ids vs cs n e ids' vs' cs') where
    pub first_step : answered_next (next t) ≡ true
    first_step = go s.starts
      where
        go : (0 < 0) ⊎ (answered_next (next t) ≡ true) → answered_next (next t) ≡ true
        go (inl h) = absurd (omega arith)
        go (inr h) = h

    pub how_many : n ≡ length (layered_steps next room t).pairs
    how_many = let c = rw all_places at s.count in omega arith

    pub at_end : (layered_steps next room t).ended ≡ e
    at_end = rw all_places at s.ended

    after : {A : Type 0} (f : LayeredPair → A) (l l' : List A) → l' ≡ sets l 0 (map f (layered_steps next (room - 0) t).pairs) → room ≤ length l → n ≤ room
        → l' ≡ layered_read_after f (read_to (layered_steps next room t)) l
    unfolding layered_read_after
    after f l l' p h k =
        let xs = (layered_steps next room t).pairs in
        (rw all_places at p)
        ∙ sets_front l (map f xs) (omega (arith, how_many, length-map xs f))
        ∙ ap (λ (n : ℕ). map f xs ++ drop n l) (length-map xs f)

    pub ids_after_is : room ≤ length ids → n ≤ room → ids' ≡ layered_read_after pair_id (read_to (layered_steps next room t)) ids
    ids_after_is = after pair_id ids ids' s.in_ids

    pub values_after_is : room ≤ length vs → n ≤ room → vs' ≡ layered_read_after pair_value (read_to (layered_steps next room t)) vs
    values_after_is = after pair_value vs vs' s.in_values

    pub columns_after : room ≤ length cs → n ≤ room → cs' ≡ layered_read_after pair_column (read_to (layered_steps next room t)) cs
    columns_after = after pair_column cs cs' s.in_columns
