-- Document 02, [1], on accepted columns: any sequence of targets, from any cursor, is answered as the plain pair list answers it; for every
-- edition whose codec is lawful. Assumes nothing.
use Rattle.format.specs.Kit.{◌≡◌, refl, ap, ◌∙◌, subst, true, false, List, [], ◌∷◌, ℕ, suc, ◌+◌, ◌-◌, ◌≤◌, ◌<◌, add-zero, arith, ℤ, pos}
use Rattle.format.specs.Kit.{get_or, leb, eq-eqb, ne_eqb, lt-ltb, le-ltb, leb-true}
use Rattle.format.specs.Limits.{max_id}
use Rattle.format.specs.Refusals.{done, need}
use Rattle.format.specs.Ids.{count_below}
use Rattle.format.specs.Editions.{Edition, editions}
use Rattle.format.specs.Pairs.{Pairs, Asc, Below}
use Rattle.format.specs.Column.{column}
use Rattle.format.specs.Opening.{Opened, open_column}
use Rattle.format.specs.Check.{accepted, check}
use Rattle.format.specs.LookUp.{found, absent, scanned, steps}
use Rattle.format.specs.Walk.{listed, words, list_answer}
use Rattle.format.specs.Next.{candidate_at, no_candidate, in_turn, next_steps, next, last_after, first_from, list_next, in_sequence}
use Rattle.laws.proofs.Cases.{below_or, equal_or, true_or}
use Rattle.laws.proofs.Lawful.{LawfulReader}
use Rattle.laws.proofs.Editions.{lawful_reader}
use Rattle.laws.proofs.Place.{listed_higher, count_higher, scan_finds}
use Rattle.laws.proofs.Unique.{is_read, opened_as_lem}
use Rattle.laws.proofs.Open.{opened_ok}
use Rattle.laws.proofs.Looked.{stepped}
use Rattle.laws.proofs.Demands.{checked_answers}
use Rattle.laws.proofs.InTurn.{apart, all_absent, found_first, id_above, gone_back, opened}

-- ---- the list

-- no id from t on, or the first one x, with k ids below it
data First (t : ℕ) (vs : List ℤ) (i : ℕ) (xs : List ℕ) : Type 0 where
  no_id : first_from t vs i xs ≡ no_candidate → ((y : ℕ) → t ≤ y → listed y xs ≡ false) → First t vs i xs
  an_id : (x k : ℕ) → first_from t vs i xs ≡ candidate_at x (i + k) (get_or vs (i + k) (pos 0)) → t ≤ x → listed x xs ≡ true → count_below x xs ≡ k
      → ((y : ℕ) → t ≤ y → y < x → listed y xs ≡ false) → First t vs i xs

module _ (t : ℕ) (vs : List ℤ) (i x : ℕ) (xs : List ℕ) where
  -- an id below t in front
  under : x < t → First t vs (suc i) xs → First t vs i (x ∷ xs)
  unfolding first_from listed count_below
  under h (no_id e f) = no_id (rw (lt-ltb x t h) e) (λ y a. rw (ne_eqb x y (λ z. omega arith)) (f y a))
  under h (an_id z k e a l n f) =
      let g : suc i + k ≡ i + suc k = omega arith in
      an_id z (suc k) (rw (lt-ltb x t h) (rw g at e)) a
      (rw (ne_eqb x z (λ w. omega arith)) l)
      (rw (lt-ltb x z (omega arith), n) (omega arith))
      (λ y b m. rw (ne_eqb x y (λ w. omega arith)) (f y b m))

  -- t or above in front: it is the first
  here : t ≤ x → Asc (suc x) xs → First t vs i (x ∷ xs)
  unfolding first_from listed count_below
  here h asc =
      an_id x 0 (rw (le-ltb x t h, add-zero i)) h
      (rw (eq-eqb x x refl))
      (rw (le-ltb x x (omega arith), count_higher x (suc x) xs (omega arith) asc))
      (λ y b m. rw (ne_eqb x y (λ w. omega arith)) (listed_higher y (suc x) xs (omega arith) asc))

first : (t : ℕ) (vs : List ℤ) (i a : ℕ) (xs : List ℕ) → Asc a xs → First t vs i xs
unfolding first_from listed
first t vs i a [] asc = no_id refl (λ y h. refl)
first t vs i a (x ∷ xs) asc =
    below_or x t
    (λ h. under t vs i x xs h (first t vs (suc i) (suc x) xs asc.1))
    (λ h. here t vs i x xs h asc.1)

listed_under : (x b : ℕ) (xs : List ℕ) → listed x xs ≡ true → Below b xs → x < b
unfolding listed
listed_under x b [] e f = absurd (let z : ◌≡◌ {A = ℕ} 0 1 = cc in omega arith)
listed_under x b (y ∷ ys) e f =
    equal_or y x
    (λ h. omega (arith, f.0))
    (λ h. listed_under x b ys (rw (ne_eqb y x h) at e) f.1)

-- ---- the steps, where each id is answered as the list answers it

abbrev Answering : List ℕ → Opened → ℕ → Pairs → Type 0
Answering bytes c p q = (id : ℕ) → id ≤ max_id → steps scanned bytes c id ≡ done (list_answer p q.ids q.values id)

module _ (bytes : List ℕ) (c : Opened) (p : ℕ) (q : Pairs) (says : Answering bytes c p q) where
  not_listed : (id : ℕ) → id ≤ max_id → listed id q.ids ≡ false → steps scanned bytes c id ≡ done (absent (words p q.ids id))
  unfolding list_answer
  not_listed id h e = says id h ∙ rw e

  is_listed : (id : ℕ) → id ≤ max_id → listed id q.ids ≡ true
      → steps scanned bytes c id ≡ done (found (count_below id q.ids) (get_or q.values (count_below id q.ids) (pos 0)) (words p q.ids id))
  unfolding list_answer
  is_listed id h e = says id h ∙ rw e

  next_listed : (t : ℕ) → t ≤ max_id → Below (suc max_id) q.ids → First t q.values 0 q.ids
      → next_steps bytes c t ≡ done (first_from t q.values 0 q.ids)
  unfolding next_steps
  next_listed t h lim (no_id e f) =
      rw e (all_absent bytes c (words p q.ids) (suc max_id - t) t (done no_candidate) (λ y a b. not_listed y (omega arith) (f y a)))
  next_listed t h lim (an_id x k e a l n f) =
      let m : x < suc max_id = listed_under x (suc max_id) q.ids l lim in
      let d : suc max_id - t ≡ (x - t) + (suc max_id - x) = omega arith in
      let g : t + (x - t) ≡ x = omega arith in
      let z : 0 + k ≡ k = omega arith in
      let above = in_turn (suc max_id - x) bytes c x (done no_candidate) in
      let s = rw g at (apart bytes c (x - t) (suc max_id - x) t (done no_candidate)) in
      rw d (s ∙ all_absent bytes c (words p q.ids) (x - t) t above (λ y b r. not_listed y (omega arith) (f y b (omega arith)))
      ∙ found_first bytes c (suc max_id - x) x (done no_candidate) (omega arith) _ _ _ (is_listed x (omega arith) l)
      ∙ rw (n, e, z))

-- ---- accepted columns

module _ (known : List Edition) (laws : LawfulReader known) (bytes : List ℕ) (c : Opened) (q : Pairs) (o : open_column known bytes ≡ done c)
    (a : accepted bytes c ≡ done q) where
  steps_answer : Answering bytes c c.head.power q
  steps_answer id k =
      let r = is_read known laws bytes c q o a in
      let knows = (opened_ok known bytes c o).knows in
      let ed = c.head.edition in
      let p = c.head.power in
      let one = opened_as_lem known _ c ed r.law knows p q.ids q.values r.valid (ap (open_column known) r.bytes_are ∙ o) refl in
      subst (λ (b : List ℕ). steps scanned b c id ≡ done (list_answer p q.ids q.values id)) r.bytes_are
      (subst (λ (c : Opened). steps scanned (column ed p q.ids q.values) c id ≡ done (list_answer p q.ids q.values id)) one
      (stepped ed r.law p q.ids q.values r.valid id k scanned scan_finds))

  -- one target, from any cursor
  pub accepted_next : (last t : ℕ) → next known bytes last t ≡ list_next q last t
  unfolding list_next need
  accepted_next last t =
      true_or (leb t max_id)
      (λ h. true_or (leb last t)
      (λ l. let v = (is_read known laws bytes c q o a).valid in
      rw (h, l)
      (opened known bytes last t h l c o
      ∙ next_listed bytes c c.head.power q steps_answer t (leb-true t max_id h) v.range (first t q.values 0 0 q.ids v.ascending)))
      (λ l. rw (h, l) (gone_back known bytes last t h l)))
      (λ h. rw h (id_above known bytes last t h))

  -- any sequence of targets
  pub accepted_nexts : (last : ℕ) (ts : List ℕ) → in_sequence (next known bytes) last ts ≡ in_sequence (list_next q) last ts
  unfolding in_sequence
  accepted_nexts last [] = refl
  accepted_nexts last (t ∷ ts) = rw (accepted_next last t, accepted_nexts (last_after (list_next q last t) last t) ts)

-- of bytes that the check accepts, and the list that they hold
pub checked_nexts : (known : List Edition) (laws : LawfulReader known) (bytes : List ℕ) (n : ℕ) (e : check known bytes ≡ done n) (last : ℕ) (ts : List ℕ)
    → in_sequence (next known bytes) last ts ≡ in_sequence (list_next (checked_answers known laws bytes n e).pairs) last ts
checked_nexts known laws bytes n e =
    let h = checked_answers known laws bytes n e in
    accepted_nexts known laws bytes h.opened h.pairs h.is_opened h.is_accepted

-- for a reader of all editions, as the calls are
pub checked_nexts_all : (bytes : List ℕ) (n : ℕ) (e : check editions bytes ≡ done n) (last : ℕ) (ts : List ℕ)
    → in_sequence (next editions bytes) last ts ≡ in_sequence (list_next (checked_answers editions (lawful_reader editions) bytes n e).pairs) last ts
checked_nexts_all = checked_nexts editions (lawful_reader editions)
