-- A buffer that a reading of one column filled, and the end of a layered reading in the lists. Assumes nothing.
use Rattle.format.specs.Kit.{◌≡◌, refl, sym, ap, ◌∙◌, ◌⊎◌, inl, inr, Bool, true, false, List, [], ◌++◌, append-nil, append_assoc, ℕ, zero, suc}
use Rattle.format.specs.Kit.{◌+◌, ◌-◌, ◌≤◌}
use Rattle.format.specs.Kit.{◌<◌, arith, ℤ, length, length-map, length-drop, take, take_at, take_all, drop, drop-drop, drop_of_length-le}
use Rattle.format.specs.Kit.{le_refl}
use Rattle.format.specs.Kit.{sets, sets-eq, replicate, put_mid, post_of, Post-is}
use Rattle.format.specs.Refusals.{Outcome, done, refused, and_then}
use Rattle.format.specs.Opening.{Opened}
use Rattle.format.specs.Next.{Candidate, candidate_at, no_candidate, next_steps}
use Rattle.format.specs.ReadFrom.{answered, pairs_from, read_steps, readout_reply, readout_after}
use Rattle.format.specs.Layered.{Layer}
use Rattle.laws.proofs.Cases.{false_true}
use Rattle.format.specs.Layered.{layer_number}
use Rattle.format.specs.LayeredReading.{LayeredNext, refused_next, next_from, stopped, none_next, layered_steps}
use Rattle.format.specs.LayeredReading.{pair_id}
use Rattle.layered_reading.specs.Turns.{answered_next}
use Rattle.layered_reading.specs.Parts.{Holds, Alone, Stopped, Refuses}
use Rattle.laws.proofs.LayeredReadings.{at_refused}
use Rattle.layered_reading.proofs.Ending.{read_pair, read_none, read_refused}

-- ---- a reading of one column

module _ (bytes : List ℕ) (c : Opened) where
  -- what its next candidate is, with the equation
  by_next : {X : Type 0} (t : ℕ) → ((i n : ℕ) (v : ℤ) → next_steps bytes c t ≡ done (candidate_at i n v) → X) → (next_steps bytes c t ≡ done no_candidate → X)
      → ((why w : ℕ) → next_steps bytes c t ≡ refused why w → X) → X
  by_next {X} t f g h = go (next_steps bytes c t) refl
    where
      go : (o : Outcome Candidate) → next_steps bytes c t ≡ o → X
      go (done (candidate_at i n v)) e = f i n v e
      go (done no_candidate) e = g e
      go (refused why w) e = h why w e

  no_places : (t : ℕ) → (length (pairs_from 0 bytes c t).ids ≡ 0) × (length (pairs_from 0 bytes c t).values ≡ 0)
  unfolding pairs_from
  no_places t = (refl, refl)

  -- no more pairs than places, and as many values as ids
  pub few_read : (k t : ℕ) → length (pairs_from k bytes c t).ids ≤ k
  few_read zero t = omega (arith, (no_places t).0)
  few_read (suc k) t =
      by_next t
      (λ i n v e. rw (read_pair bytes c k t i n v e) (omega (arith, few_read k (suc i))))
      (λ e. rw (read_none bytes c (suc k) t e) (omega arith))
      (λ why w e. rw (read_refused bytes c (suc k) t why w e) (omega arith))

  pub as_many : (k t : ℕ) → length (pairs_from k bytes c t).values ≡ length (pairs_from k bytes c t).ids
  as_many zero t = omega (arith, (no_places t).0, (no_places t).1)
  as_many (suc k) t =
      by_next t
      (λ i n v e. rw (read_pair bytes c k t i n v e) (omega (arith, as_many k (suc i))))
      (λ e. rw (read_none bytes c (suc k) t e) refl)
      (λ why w e. rw (read_refused bytes c (suc k) t why w e) refl)

  -- a first step that is no refusal gives a pair, or the end
  pub some_or_ended : (k t : ℕ) → 0 < k → answered (next_steps bytes c t) ≡ true → length (pairs_from k bytes c t).ids ≡ 0 → (pairs_from k bytes c t).ended ≡ true
  unfolding answered
  some_or_ended zero t h a e = absurd (omega arith)
  some_or_ended (suc k) t h a e =
      by_next t
      (λ i n v f. absurd (let g = rw (read_pair bytes c k t i n v f) at e in omega arith))
      (λ f. rw (read_none bytes c (suc k) t f) refl)
      (λ why w f. false_true (sym (ap answered f) ∙ a))

  -- what a reply says of the reading
  module _ (t k : ℕ) where
    pub record Answers (n : ℕ) (e : Bool) : Type 0 where
      pub whole : read_steps bytes c t k ≡ done (pairs_from k bytes c t)
      pub count : length (pairs_from k bytes c t).ids ≡ n
      pub ended : (pairs_from k bytes c t).ended ≡ e
      pub answers : answered (next_steps bytes c t) ≡ true

    count_of : Outcome (ℕ × Bool) → ℕ
    count_of (done x) = x.0
    count_of (refused why w) = 0

    end_of : Outcome (ℕ × Bool) → Bool
    end_of (done x) = x.1
    end_of (refused why w) = false

    pub answers_so : (n : ℕ) (e : Bool) → done (n, e) ≡ readout_reply (read_steps bytes c t k) → Answers n e
    unfolding read_steps and_then readout_reply answered count_of end_of
    answers_so n e f = go (next_steps bytes c t) refl
      where
        go : (o : Outcome Candidate) → next_steps bytes c t ≡ o → Answers n e
        go (done x) g =
            let h = rw g at f in
            record { whole = rw g refl; count = sym (ap count_of h); ended = sym (ap end_of h); answers = rw g refl }
        go (refused why w) g = absurd (let h = rw g at f in let z : ◌≡◌ {A = ℕ} 0 1 = cc in omega arith)

    pub refused_so : (why w : ℕ) → refused why w ≡ readout_reply (read_steps bytes c t k) → next_steps bytes c t ≡ refused why w
    unfolding read_steps and_then readout_reply
    refused_so why w f = go (next_steps bytes c t) refl
      where
        other : Outcome (ℕ × Bool) → Outcome Candidate
        other (done x) = done no_candidate
        other (refused n v) = refused n v

        go : (o : Outcome Candidate) → next_steps bytes c t ≡ o → next_steps bytes c t ≡ refused why w
        go (done x) g = absurd (let h = rw g at f in let z : ◌≡◌ {A = ℕ} 0 1 = cc in omega arith)
        go (refused n v) g = let h = rw g at f in g ∙ ap other (sym h)

    -- the lists that were read into
    front : {A : Type 0} (xs ys l : List A) (n : ℕ) → l ≡ xs ++ ys → length xs ≡ n → xs ≡ take (n - 0) (drop 0 l)
    front xs ys l n e f = let z : n - 0 ≡ n = omega arith in rw (e, z) (sym (take_at xs ys n f))

    pub read_holds : (n : ℕ) (e : Bool) (is is' : List ℕ) (vs vs' : List ℤ) → Answers n e → is' ≡ readout_after (λ w. w.ids) (read_steps bytes c t k) is
        → vs' ≡ readout_after (λ w. w.values) (read_steps bytes c t k) vs → Holds bytes c t is' vs' 0 n e
    unfolding readout_after
    read_holds n e is is' vs vs' a f g =
        record {
          room = k;
          ids = front (pairs_from k bytes c t).ids _ is' n (rw a.whole at f) a.count;
          values = front (pairs_from k bytes c t).values _ vs' n (rw a.whole at g) (as_many k t ∙ a.count);
          last = a.ended;
        }

-- ---- a part that was lent from place i on, and whose first places were stored

pub part_stored : {A : Type 0} (l part xs : List A) (i : ℕ) → i + length xs ≤ length l → part ≡ xs ++ drop (length xs) (take (length l - i) (drop i l))
    → put_mid i (length l - i) l part ≡ sets l i xs
part_stored {A} l part xs i h e =
    let whole : take (length l - i) (drop i l) ≡ drop i l = take_all (length l - i) (drop i l) (omega (arith, length-drop i l)) in
    let none_left : post_of i (length l - i) l ≡ [] = Post-is i (length l) l (omega arith) ∙ drop_of_length-le l (le_refl (length l)) in
    ap (λ (x : List A). take i l ++ (part ++ x)) none_left
    ∙ ap (λ (x : List A). take i l ++ x)
    (append-nil part ∙ e ∙ ap (λ (x : List A). xs ++ drop (length xs) x) whole ∙ ap (λ (x : List A). xs ++ x) (drop-drop (length xs) i l))
    ∙ sym (append_assoc (take i l) xs (drop (i + length xs) l))
    ∙ sym (sets-eq xs l i h)

-- ---- the end of a layered reading

module _ (next : ℕ → LayeredNext) (room i t : ℕ) (ids : List ℕ) (vs : List ℤ) (cs : List ℕ) where
  -- nothing is left to store
  unmoved : (e : Bool) → layered_steps next (room - i) t ≡ stopped e → (0 < i) ⊎ (answered_next (next t) ≡ true)
      → Stopped next room i t ids vs cs i e ids vs cs
  unmoved e s h =
      record {
        in_ids = rw s refl;
        in_values = rw s refl;
        in_columns = rw s refl;
        count = rw s (omega arith);
        ended = rw s refl;
        starts = h;
      }

  full_steps : (k : ℕ) → k ≡ 0 → layered_steps next k t ≡ stopped (none_next (next t))
  unfolding layered_steps
  full_steps k e = rw e refl

  -- no place is left, and a pair is
  pub full : i ≡ room → none_next (next t) ≡ false → answered_next (next t) ≡ true → Stopped next room i t ids vs cs i false ids vs cs
  full h n a = unmoved false (full_steps (room - i) (omega arith) ∙ ap stopped n) (inr a)

  -- the next step is a refusal, after a pair
  pub refused_later : (layer : Layer) (why w : ℕ) → 0 < i → next t ≡ refused_next layer why w → Stopped next room i t ids vs cs i false ids vs cs
  refused_later layer why w h e = unmoved false (at_refused next (room - i) t layer why w e) (inl h)

  -- or before the first
  pub refused_at_first : (layer : Layer) (why w : ℕ) → i ≡ 0 → next t ≡ refused_next layer why w → Refuses next i t layer why w ids ids vs vs cs cs
  refused_at_first layer why w h e = record { first = h; refusal = e; in_ids = refl; in_values = refl; in_columns = refl }

  -- one column's pairs are stored
  module _ (layer : Layer) (bytes : List ℕ) (c : Opened) (a : Alone layer next bytes c t) where
    answered_alike : (o : Outcome Candidate) → answered o ≡ true → answered_next (next_from layer o) ≡ true
    unfolding answered answered_next next_from
    answered_alike (done (candidate_at j n v)) e = refl
    answered_alike (done no_candidate) e = refl
    answered_alike (refused why w) e = false_true e

    pub alone_stopped : (n m : ℕ) (e : Bool) (ids' : List ℕ) (vs' : List ℤ) (cs' : List ℕ) → m ≡ i + n → length (pairs_from (room - i) bytes c t).ids ≡ n
        → (pairs_from (room - i) bytes c t).ended ≡ e → answered (next_steps bytes c t) ≡ true → ids' ≡ sets ids i (pairs_from (room - i) bytes c t).ids
        → vs' ≡ sets vs i (pairs_from (room - i) bytes c t).values → cs' ≡ sets cs i (replicate n (layer_number layer))
        → Stopped next room i t ids vs cs m e ids' vs' cs'
    alone_stopped n m e ids' vs' cs' en el ee ea ei ev ec =
        let k : ℕ = room - i in
        record {
          in_ids = ei ∙ ap (sets ids i) (sym (a.ids k));
          in_values = ev ∙ ap (sets vs i) (sym (a.values k));
          in_columns = ec ∙ ap (λ (n : ℕ). sets cs i (replicate n (layer_number layer))) (sym el) ∙ ap (sets cs i) (sym (a.columns k));
          count = let f : length (layered_steps next k t).pairs ≡ n = sym (length-map (layered_steps next k t).pairs pair_id) ∙ ap length (a.ids k) ∙ el in
              omega arith;
          ended = a.ended k ∙ ee;
          starts = inr (ap answered_next a.here ∙ answered_alike (next_steps bytes c t) ea);
        }

    -- and there is none
    pub alone_none : next_steps bytes c t ≡ done no_candidate → Stopped next room i t ids vs cs i true ids vs cs
    unfolding answered
    alone_none e =
        let s = read_none bytes c (room - i) t e in
        alone_stopped 0 i true ids vs cs (omega arith) (rw s refl) (rw s refl) (ap answered e) (rw s refl) (rw s refl) refl

    -- a refusal
    pub alone_refused : (why w : ℕ) → next_steps bytes c t ≡ refused why w → next t ≡ refused_next layer why w
    unfolding next_from
    alone_refused why w e = a.here ∙ ap (next_from layer) e
