-- On two accepted columns a reading gives the pairs of the merged list from the target on, and readings one after the other give the whole of
-- it. Assumes nothing.
use Rattle.format.specs.Kit.{◌≡◌, refl, sym, ap, ap₂, ◌∙◌, true, ◌||◌, List, [], ◌∷◌, append-nil, ℕ, zero, suc, ◌+◌, ◌≤◌, ◌<◌, arith, ℤ, pos}
use Rattle.format.specs.Kit.{length, take, drop, drop-cons, take_all, take-append-drop, length-drop, length-map, leb, le-leb, lt-leb, lt-ltb, le-ltb, leb-true}
use Rattle.format.specs.Limits.{max_id}
use Rattle.format.specs.Refusals.{done, need, and_then}
use Rattle.format.specs.Editions.{Edition}
use Rattle.format.specs.Pairs.{Pairs, Asc, Below}
use Rattle.format.specs.Opening.{Opened, open_column}
use Rattle.format.specs.Check.{accepted}
use Rattle.format.specs.Walk.{listed}
use Rattle.format.specs.Next.{no_candidate, in_turn, next_steps, first_from, list_next}
use Rattle.format.specs.Layered.{Layer, machine, correction}
use Rattle.laws.proofs.Cases.{below_or, true_or}
use Rattle.laws.proofs.Lawful.{LawfulReader}
use Rattle.laws.proofs.Unique.{is_read}
use Rattle.laws.proofs.InTurn.{opened}
use Rattle.laws.proofs.Sequences.{accepted_next}
use Rattle.format.specs.ReadFrom.{id_after}
use Rattle.format.specs.LayeredReading.{LayeredPair, pair_ids, LayeredNext, next_pair, no_pair, next_from, sooner, next_of_both}
use Rattle.format.specs.LayeredReading.{layered_steps, both_then, read_to, answering_from, column_from, read_layered, pairs_of}
use Rattle.format.specs.LayeredReading.{merged, first_at, merged_from, list_read, lists_read, reads_from, reading_of, calls_from}
use Rattle.laws.proofs.MergedPairs.{first_under, first_here, by_asc, by_below, by_ids, by_length, by_first}
use Rattle.laws.proofs.LayeredReadings.{at_none, at_pair, at_full, goes_on_within}

-- ---- ascending pairs from a target on

module _ (t : ℕ) (p : LayeredPair) (ps : List LayeredPair) where
  from_under : p.id < t → merged_from t (p ∷ ps) ≡ merged_from t ps
  unfolding merged_from
  from_under h = rw (lt-ltb p.id t h)

  from_here : t ≤ p.id → merged_from t (p ∷ ps) ≡ p ∷ ps
  unfolding merged_from
  from_here h = rw (le-ltb p.id t h)

-- of pairs that are all at or above the target none is left out
pub from_all : (t : ℕ) (ps : List LayeredPair) → Asc t (pair_ids ps) → merged_from t ps ≡ ps
unfolding merged_from
from_all t [] s = refl
from_all t (p ∷ ps) s = from_here t p ps s.0

-- none is left, or a first one is, and the others are those above it
pub from_or : {X : Type 0} (a b t : ℕ) (ps : List LayeredPair) → Asc a (pair_ids ps) → Below b (pair_ids ps)
    → (first_at t ps ≡ no_pair → merged_from t ps ≡ [] → X)
    → ((p : LayeredPair) (more : List LayeredPair) → first_at t ps ≡ next_pair p → merged_from t ps ≡ p ∷ more → merged_from (suc p.id) ps ≡ more
    → t ≤ p.id → p.id < b → X) → X
unfolding first_at merged_from
from_or a b t [] s u f g = f refl refl
from_or a b t (p ∷ ps) s u f g =
    below_or p.id t
    (λ h.
    from_or (suc p.id) b t ps s.1 u.1
    (λ e n. f (first_under t p ps h ∙ e) (from_under t p ps h ∙ n))
    (λ q more e n m l k.
    g q more (first_under t p ps h ∙ e) (from_under t p ps h ∙ n) (from_under (suc q.id) p ps (omega arith) ∙ m) l k))
    (λ h.
    g p ps (first_here t p ps h) (from_here t p ps h) (from_under (suc p.id) p ps (omega arith) ∙ from_all (suc p.id) ps s.1) h u.0)

-- after the first k the target is that after the last of them
pub from_after : (b k t : ℕ) (ps : List LayeredPair) → Asc 0 (pair_ids ps) → Below b (pair_ids ps)
    → merged_from (id_after t (pair_ids (take k (merged_from t ps)))) ps ≡ drop k (merged_from t ps)
unfolding id_after
from_after b zero t ps s u = refl
from_after b (suc k) t ps s u =
    from_or 0 b t ps s u
    (λ e n. rw n n)
    (λ p more e n m l h. rw n (let r = from_after b k (suc p.id) ps s u in rw m at r))

pub after_within : (b k t : ℕ) (ps : List LayeredPair) → Asc 0 (pair_ids ps) → Below b (pair_ids ps) → t ≤ b
    → id_after t (pair_ids (take k (merged_from t ps))) ≤ b
unfolding id_after
after_within b zero t ps s u h = h
after_within b (suc k) t ps s u h =
    from_or 0 b t ps s u
    (λ e n. rw n h)
    (λ p more e n m l i. rw n (let r = after_within b k (suc p.id) ps s u i in rw m at r))

one_more : (a b : ℕ) → leb (suc a) (suc b) ≡ leb a b
one_more a b =
    below_or b a
    (λ h. rw (lt-leb (suc a) (suc b) (omega arith), lt-leb a b h) refl)
    (λ h. rw (le-leb (suc a) (suc b) (omega arith), le-leb a b h) refl)

none_of : {A : Type 0} (xs : List A) → length xs ≤ 0 → xs ≡ []
none_of [] h = refl
none_of (x ∷ xs) h = absurd (omega arith)

-- ---- the steps, where each target is answered_next by the first pair at or above it

module _ (next : ℕ → LayeredNext) (ps : List LayeredPair) (asc : Asc 0 (pair_ids ps)) (lim : Below (suc max_id) (pair_ids ps))
    (says : (t : ℕ) → t ≤ suc max_id → next t ≡ first_at t ps) where
  pub same : (k t : ℕ) → t ≤ suc max_id → layered_steps next k t ≡ list_read ps k t
  unfolding list_read
  same zero t h =
      from_or 0 (suc max_id) t ps asc lim
      (λ e n. at_none next 0 t (says t h ∙ e) ∙ rw n refl)
      (λ p more e n m l b. at_full next t p (says t h ∙ e) ∙ rw (n, lt-leb (length (p ∷ more)) 0 (omega arith)) refl)
  same (suc k) t h =
      from_or 0 (suc max_id) t ps asc lim
      (λ e n. at_none next (suc k) t (says t h ∙ e) ∙ rw (n, le-leb 0 (suc k) (omega arith)) refl)
      (λ p more e n m l b.
      at_pair next k t p (says t h ∙ e) ∙ rw (same k (suc p.id) b, m, n, one_more (length more) k) refl)

  -- readings with room for k, one after the other: as many as there are pairs are enough
  module _ (k : ℕ) (some : 0 < k) where
    pub reads_all : (f t : ℕ) → t ≤ suc max_id → length (merged_from t ps) ≤ f → reads_from f k next t ≡ merged_from t ps
    unfolding reads_from list_read
    reads_all zero t h l = sym (none_of (merged_from t ps) (omega arith))
    reads_all (suc f) t h l =
        below_or k (length (merged_from t ps))
        (λ b.
        let n = length-drop k (merged_from t ps) in
        let a = from_after (suc max_id) k t ps asc lim in
        let u = ap (λ (l : List LayeredPair). length l) a in
        let more = reads_all f _ (after_within (suc max_id) k t ps asc lim h) (omega (arith, u, n)) in
        rw (same k t h, lt-leb (length (merged_from t ps)) k b, more, a) (take-append-drop k (merged_from t ps)))
        (λ b.
        rw (same k t h, le-leb (length (merged_from t ps)) k b, take_all k (merged_from t ps) b) (append-nil (merged_from t ps)))

    -- from 0 on it is the whole list
    pub reads_whole : (f : ℕ) → length ps ≤ f → reads_from f k next 0 ≡ ps
    reads_whole f l =
        let a = from_all 0 ps asc in
        reads_all f 0 (omega arith) (rw a l) ∙ a

-- ---- one column's list

-- its ids,
pairs_ids : (layer : Layer) (is : List ℕ) (vs : List ℤ) → length is ≡ length vs → pair_ids (pairs_of layer is vs) ≡ is
unfolding pairs_of
pairs_ids layer [] vs e = refl
pairs_ids layer (i ∷ is) [] e = absurd (omega arith)
pairs_ids layer (i ∷ is) (v ∷ vs) e = ap (λ l. i ∷ l) (pairs_ids layer is vs (omega arith))

pairs_length : (layer : Layer) (is : List ℕ) (vs : List ℤ) → length is ≡ length vs → length (pairs_of layer is vs) ≡ length is
pairs_length layer is vs e = sym (length-map (pairs_of layer is vs) (λ (p : LayeredPair). p.id)) ∙ ap (λ (l : List ℕ). length l) (pairs_ids layer is vs e)

-- and its first pair at or above a target, of those from index i on
pairs_first : (layer : Layer) (t : ℕ) (vs : List ℤ) (i : ℕ) (xs : List ℕ) → i + length xs ≡ length vs
    → next_from layer (done (first_from t vs i xs)) ≡ first_at t (pairs_of layer xs (drop i vs))
unfolding pairs_of first_at first_from next_from
pairs_first layer t vs i [] e = refl
pairs_first layer t vs i (x ∷ xs) e =
    let d = drop-cons vs i (pos 0) (omega arith) in
    below_or x t
    (λ h. rw (d, lt-ltb x t h) (pairs_first layer t vs (suc i) xs (omega arith)))
    (λ h. rw (d, le-ltb x t h) refl)

-- ---- an accepted column

module _ (known : List Edition) (laws : LawfulReader known) (bytes : List ℕ) (c : Opened) (q : Pairs) (o : open_column known bytes ≡ done c)
    (a : accepted bytes c ≡ done q) where
  none_first : (t : ℕ) (vs : List ℤ) (i : ℕ) (xs : List ℕ) → Below t xs → first_from t vs i xs ≡ no_candidate
  unfolding first_from
  none_first t vs i [] u = refl
  none_first t vs i (x ∷ xs) u = rw (lt-ltb x t u.0) (none_first t vs (suc i) xs u.1)

  none_above : next_steps bytes c (suc max_id) ≡ done (first_from (suc max_id) q.values 0 q.ids)
  unfolding next_steps in_turn
  none_above = rw (none_first (suc max_id) q.values 0 q.ids (is_read known laws bytes c q o a).valid.range) refl

  answers : (t : ℕ) → t ≤ suc max_id → next_steps bytes c t ≡ done (first_from t q.values 0 q.ids)
  unfolding list_next need
  answers t h =
      below_or t (suc max_id)
      (λ l.
      let e : leb t max_id ≡ true = le-leb t max_id (omega arith) in
      let z : leb 0 t ≡ true = le-leb 0 t (omega arith) in
      let n : list_next q 0 t ≡ done (first_from t q.values 0 q.ids) = rw (e, z) refl in
      sym (opened known bytes 0 t e z c o) ∙ accepted_next known laws bytes c q o a 0 t ∙ n)
      (λ l. let e : t ≡ suc max_id = omega arith in rw e none_above)

  abbrev layer_pairs : Layer → List LayeredPair
  layer_pairs layer = pairs_of layer q.ids q.values

  next_is : (layer : Layer) (t : ℕ) → t ≤ suc max_id → next_from layer (next_steps bytes c t) ≡ first_at t (layer_pairs layer)
  next_is layer t h =
      ap (next_from layer) (answers t h) ∙ pairs_first layer t q.values 0 q.ids (omega (arith, (is_read known laws bytes c q o a).valid.lengths))

  layer_asc : (layer : Layer) → Asc 0 (pair_ids (layer_pairs layer))
  layer_asc layer =
      let v = (is_read known laws bytes c q o a).valid in
      rw (pairs_ids layer q.ids q.values v.lengths) v.ascending

  layer_below : (layer : Layer) → Below (suc max_id) (pair_ids (layer_pairs layer))
  layer_below layer =
      let v = (is_read known laws bytes c q o a).valid in
      rw (pairs_ids layer q.ids q.values v.lengths) v.range

  -- the call's own tests pass up to the greatest id
  column_from_lem : (t : ℕ) → t ≤ max_id → column_from known bytes t ≡ done c
  unfolding column_from answering_from need and_then
  column_from_lem t h = rw (le-leb t max_id h, o, answers t (omega arith)) refl

-- ---- two accepted columns, each of its own edition and rank power

module _ (known : List Edition) (laws : LawfulReader known) (m : List ℕ) (x : Opened) (p : Pairs) (ox : open_column known m ≡ done x)
    (ax : accepted m x ≡ done p) (c : List ℕ) (y : Opened) (q : Pairs) (oy : open_column known c ≡ done y) (ay : accepted c y ≡ done q) where
  -- the merge ascends strictly, within the limit
  pub merge_ascends : Asc 0 (pair_ids (merged p q))
  merge_ascends = by_asc _ _ (layer_asc known laws c y q oy ay correction) (layer_asc known laws m x p ox ax machine)

  pub merge_below : Below (suc max_id) (pair_ids (merged p q))
  merge_below = by_below (suc max_id) _ _ (layer_below known laws c y q oy ay correction) (layer_below known laws m x p ox ax machine)

  -- its ids are those of the two lists,
  pub merge_ids : (id : ℕ) → listed id (pair_ids (merged p q)) ≡ listed id q.ids || listed id p.ids
  merge_ids id =
      by_ids id _ _
      ∙ ap₂ (λ (a b : List ℕ). listed id a || listed id b)
      (pairs_ids correction q.ids q.values (is_read known laws c y q oy ay).valid.lengths)
      (pairs_ids machine p.ids p.values (is_read known laws m x p ox ax).valid.lengths)

  -- so that it has at most as many pairs as both
  pub merge_length : length (merged p q) ≤ length q.ids + length p.ids
  merge_length =
      omega (
        arith,
        by_length (pairs_of correction q.ids q.values) (pairs_of machine p.ids p.values),
        pairs_length correction q.ids q.values (is_read known laws c y q oy ay).valid.lengths,
        pairs_length machine p.ids p.values (is_read known laws m x p ox ax).valid.lengths,
      )

  -- the next pair of both columns is the merge's
  pub next_pair_lem : (t : ℕ) → t ≤ suc max_id → next_of_both m x c y t ≡ first_at t (merged p q)
  unfolding next_of_both
  next_pair_lem t h =
      ap₂ sooner (next_is known laws c y q oy ay correction t h) (next_is known laws m x p ox ax machine t h)
      ∙ sym (by_first 0 t _ _ (layer_asc known laws c y q oy ay correction))

  -- the steps
  pub merged_steps : (k t : ℕ) → t ≤ suc max_id → layered_steps (next_of_both m x c y) k t ≡ list_read (merged p q) k t
  merged_steps = same (next_of_both m x c y) (merged p q) merge_ascends merge_below next_pair_lem

  -- the call: the pairs of the merge from the target on, at the end exactly if no more are left
  pub merged_read : (t room : ℕ) → read_layered known m c t room ≡ lists_read p q t room
  unfolding read_layered lists_read both_then column_from need
  merged_read t room =
      true_or (leb t max_id)
      (λ h.
      let l : t ≤ max_id = leb-true t max_id h in
      ap₂ (λ a b. both_then a b (λ y x. read_to (layered_steps (next_of_both m x c y) room t)))
      (column_from_lem known laws c y q oy ay t l) (column_from_lem known laws m x p ox ax t l)
      ∙ rw (h, merged_steps room t (omega arith)) refl)
      (λ h. rw h refl)

  -- readings with room k > 0, each from the last id + 1 on, give the whole merge
  pub merged_reads : (f k : ℕ) → 0 < k → length (merged p q) ≤ f → reads_from f k (next_of_both m x c y) 0 ≡ merged p q
  merged_reads f k h l = reads_whole (next_of_both m x c y) (merged p q) merge_ascends merge_below next_pair_lem k h f l

  -- and so do calls one after the other
  call_reads : (k t : ℕ) → t ≤ max_id → reading_of (read_layered known m c t k) ≡ layered_steps (next_of_both m x c y) k t
  unfolding reading_of lists_read
  call_reads k t h = ap reading_of (merged_read t k) ∙ rw (le-leb t max_id h) (sym (merged_steps k t (omega arith)))

  same_calls : (k f t : ℕ) → t ≤ max_id → calls_from f k (read_layered known m c) t ≡ reads_from f k (next_of_both m x c y) t
  unfolding calls_from reads_from
  same_calls k zero t h = refl
  same_calls k (suc f) t h =
      true_or (layered_steps (next_of_both m x c y) k t).ended
      (λ e. rw (call_reads k t h, e) refl)
      (λ e. rw (call_reads k t h, e, same_calls k f _ (goes_on_within m x c y k t e)) refl)

  pub merged_calls : (f k : ℕ) → 0 < k → length (merged p q) ≤ f → calls_from f k (read_layered known m c) 0 ≡ merged p q
  merged_calls f k h l = same_calls k f 0 (omega arith) ∙ merged_reads f k h l
