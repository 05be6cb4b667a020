-- On accepted columns: the pairs of the list from the id on, in order. Assumes nothing.
use Rattle.format.specs.Kit.{◌≡◌, refl, sym, ap, ◌∙◌, true, List, [], ◌∷◌, ℕ, zero, suc, ◌+◌, ◌≤◌, ◌<◌, arith, ℤ, pos}
use Rattle.format.specs.Kit.{length, get_or, take, drop, drop-cons, drop_of_length-le, leb, le-leb, lt-leb, lt-ltb, le-ltb, leb-true, add-zero, zero-add}
use Rattle.format.specs.Limits.{max_id}
use Rattle.format.specs.Refusals.{Outcome, done, need, and_then}
use Rattle.format.specs.Ids.{count_below}
use Rattle.format.specs.Editions.{Edition, editions}
use Rattle.format.specs.Pairs.{Pairs, Asc, Below}
use Rattle.format.specs.Opening.{Opened, open_column}
use Rattle.format.specs.Check.{accepted, check}
use Rattle.format.specs.Next.{Candidate, candidate_at, no_candidate, in_turn, next_steps, first_from, list_next}
use Rattle.laws.proofs.Cases.{below_or, true_or}
use Rattle.laws.proofs.Place.{count_higher}
use Rattle.laws.proofs.Lawful.{LawfulReader}
use Rattle.laws.proofs.Editions.{lawful_reader}
use Rattle.laws.proofs.Unique.{is_read}
use Rattle.laws.proofs.InTurn.{opened}
use Rattle.laws.proofs.Sequences.{accepted_next}
use Rattle.laws.proofs.Demands.{checked_answers}
use Rattle.format.specs.ReadFrom.{is_none, goes_on, pairs_from, read_steps, read_from, list_readout, list_read_from}

-- ---- the list

-- of ids whose first has index i: all are below t, or the first that is not stands after those below it
data Split (t : ℕ) (vs : List ℤ) (i : ℕ) (xs : List ℕ) : Type 0 where
  all_below : first_from t vs i xs ≡ no_candidate → count_below t xs ≡ length xs → Split t vs i xs
  from_here : (j : ℕ) → count_below t xs ≡ j → j < length xs → first_from t vs i xs ≡ candidate_at (get_or xs j 0) (i + j) (get_or vs (i + j) (pos 0))
      → count_below (suc (get_or xs j 0)) xs ≡ suc j → t ≤ get_or xs j 0 → Split t vs i xs

module _ (t : ℕ) (vs : List ℤ) (i x : ℕ) (xs : List ℕ) where
  under : x < t → Split t vs (suc i) xs → Split t vs i (x ∷ xs)
  unfolding first_from count_below
  under h (all_below e n) = all_below (rw (lt-ltb x t h) e) (rw (lt-ltb x t h, n) (omega arith))
  under h (from_here j n l e m a) =
      let g : suc i + j ≡ i + suc j = omega arith in
      from_here (suc j)
      (rw (lt-ltb x t h, n) (omega arith))
      (omega arith)
      (rw (lt-ltb x t h) (rw g at e))
      (rw (lt-ltb x (suc (get_or xs j 0)) (omega arith), m) (omega arith))
      a

  here : t ≤ x → Asc (suc x) xs → Split t vs i (x ∷ xs)
  unfolding first_from count_below
  here h asc =
      from_here 0
      (rw (le-ltb x t h, count_higher t (suc x) xs (omega arith) asc))
      (omega arith)
      (rw (le-ltb x t h, add-zero i))
      (rw (lt-ltb x (suc x) (omega arith), count_higher (suc x) (suc x) xs (omega arith) asc))
      h

split : (t : ℕ) (vs : List ℤ) (i a : ℕ) (xs : List ℕ) → Asc a xs → Split t vs i xs
unfolding first_from count_below
split t vs i a [] asc = all_below refl refl
split t vs i a (x ∷ xs) asc =
    below_or x t
    (λ h. under t vs i x xs h (split t vs (suc i) (suc x) xs asc.1))
    (λ h. here t vs i x xs h asc.1)

split_or : {t : ℕ} {vs : List ℤ} {i : ℕ} {xs : List ℕ} {X : Type 0} → Split t vs i xs → (first_from t vs i xs ≡ no_candidate → count_below t xs ≡ length xs → X)
    → ((j : ℕ) → count_below t xs ≡ j → j < length xs → first_from t vs i xs ≡ candidate_at (get_or xs j 0) (i + j) (get_or vs (i + j) (pos 0))
    → count_below (suc (get_or xs j 0)) xs ≡ suc j → t ≤ get_or xs j 0 → X) → X
split_or (all_below e n) f g = f e n
split_or (from_here j n l e m a) f g = g j n l e m a

pub in_range : (b j : ℕ) (xs : List ℕ) → Below b xs → j < length xs → get_or xs j 0 < b
in_range b j [] f h = absurd (omega arith)
in_range b zero (x ∷ xs) f h = f.0
in_range b (suc j) (x ∷ xs) f h = in_range b j xs f.1 (omega arith)

-- ---- the steps, where each target is answered as the list answers it

module _ (bytes : List ℕ) (c : Opened) (q : Pairs) (pairs : length q.ids ≡ length q.values) (asc : Asc 0 q.ids)
    (says : (t : ℕ) → t ≤ suc max_id → next_steps bytes c t ≡ done (first_from t q.values 0 q.ids)) (lim : Below (suc max_id) q.ids) where
  abbrev Same : ℕ → ℕ → Type 0
  Same k t = pairs_from k bytes c t ≡ list_readout q k t

  -- no pair is left
  none_left : (k t : ℕ) → next_steps bytes c t ≡ done no_candidate → count_below t q.ids ≡ length q.ids → Same k t
  unfolding pairs_from list_readout goes_on is_none
  none_left zero t e n = rw (e, n, le-leb (length q.ids) (length q.ids + 0) (omega arith))
  none_left (suc k) t e n =
      rw (
        e,
        n,
        le-leb (length q.ids) (length q.ids + suc k) (omega arith),
        drop_of_length-le q.ids {i = length q.ids} (omega arith),
        drop_of_length-le q.values {i = length q.ids} (omega arith),
      )

  -- a pair is left
  one_left : (k t j : ℕ) → let x = get_or q.ids j 0 in
      next_steps bytes c t ≡ done (candidate_at x j (get_or q.values j (pos 0))) → count_below t q.ids ≡ j → j < length q.ids
      → count_below (suc x) q.ids ≡ suc j → Same k (suc x) → Same (suc k) t
  unfolding pairs_from list_readout goes_on
  one_left k t j e n l m more =
      let x = get_or q.ids j 0 in
      let s : suc j + k ≡ j + suc k = omega arith in
      let w : pairs_from k bytes c (suc x)
      ≡ record { ids = take k (drop (suc j) q.ids); values = take k (drop (suc j) q.values); ended = leb (length q.ids) (suc j + k) } =
      rw m at more in
      rw (e, w, n, drop-cons q.ids j 0 l, drop-cons q.values j (pos 0) (omega arith), s)

  last_left : (t j : ℕ) (v : ℤ) → next_steps bytes c t ≡ done (candidate_at (get_or q.ids j 0) j v) → count_below t q.ids ≡ j → j < length q.ids → Same 0 t
  unfolding pairs_from list_readout is_none
  last_left t j v e n l = rw (e, n, lt-leb (length q.ids) (j + 0) (omega arith))

  same : (k t : ℕ) → t ≤ suc max_id → Same k t
  same zero t h =
      split_or (split t q.values 0 0 q.ids asc)
      (λ e n. none_left 0 t (says t h ∙ ap {B = Outcome Candidate} (λ x. done x) e) n)
      (λ j n l e m a. last_left t j _ (says t h ∙ ap {B = Outcome Candidate} (λ x. done x) (rw (zero-add j) at e)) n l)
  same (suc k) t h =
      split_or (split t q.values 0 0 q.ids asc)
      (λ e n. none_left (suc k) t (says t h ∙ ap {B = Outcome Candidate} (λ x. done x) e) n)
      (λ j n l e m a.
      one_left k t j (says t h ∙ ap {B = Outcome Candidate} (λ x. done x) (rw (zero-add j) at e)) n l m
      (same k (suc (get_or q.ids j 0)) (in_range (suc max_id) j q.ids lim l)))

-- ---- accepted columns

module _ (known : List Edition) (laws : LawfulReader known) (bytes : List ℕ) (c : Opened) (q : Pairs) (o : open_column known bytes ≡ done c)
    (a : accepted bytes c ≡ done q) where
  -- above the greatest id there is none
  none_above : next_steps bytes c (suc max_id) ≡ done (first_from (suc max_id) q.values 0 q.ids)
  unfolding next_steps in_turn
  none_above =
      let v = (is_read known laws bytes c q o a).valid in
      split_or (split (suc max_id) q.values 0 0 q.ids v.ascending)
      (λ e n. rw e refl)
      (λ j n l e m b. absurd (omega (arith, in_range (suc max_id) j q.ids v.range l)))

  answers : (t : ℕ) → t ≤ suc max_id → next_steps bytes c t ≡ done (first_from t q.values 0 q.ids)
  unfolding list_next need
  answers t h =
      below_or t (suc max_id)
      (λ l.
      let e : leb t max_id ≡ true = le-leb t max_id (omega arith) in
      let z : leb 0 t ≡ true = le-leb 0 t (omega arith) in
      let n : list_next q 0 t ≡ done (first_from t q.values 0 q.ids) = rw (e, z) refl in
      sym (opened known bytes 0 t e z c o) ∙ accepted_next known laws bytes c q o a 0 t ∙ n)
      (λ l. let e : t ≡ suc max_id = omega arith in rw e none_above)

  -- the steps
  pub accepted_steps : (k t : ℕ) → t ≤ suc max_id → pairs_from k bytes c t ≡ list_readout q k t
  accepted_steps k t h =
      let v = (is_read known laws bytes c q o a).valid in
      same bytes c q v.lengths v.ascending answers v.range k t h

  -- the call: the pairs of the list from the id on
  pub accepted_read_from : (t room : ℕ) → read_from known bytes t room ≡ list_read_from q t room
  unfolding read_from list_read_from read_steps need and_then
  accepted_read_from t room =
      true_or (leb t max_id)
      (λ h. let l : t ≤ max_id = leb-true t max_id h in rw (h, o, answers t (omega arith), accepted_steps room t (omega arith)))
      (λ h. rw h)

-- of bytes that the check accepts, and the list that they hold
pub checked_read_from : (bytes : List ℕ) (n : ℕ) (e : check editions bytes ≡ done n) (t room : ℕ)
    → read_from editions bytes t room ≡ list_read_from (checked_answers editions (lawful_reader editions) bytes n e).pairs t room
checked_read_from bytes n e =
    let h = checked_answers editions (lawful_reader editions) bytes n e in
    accepted_read_from editions (lawful_reader editions) bytes h.opened h.pairs h.is_opened h.is_accepted
