-- On two accepted columns a reading and the layered look-up agree: the merge has a pair for an id exactly where the look-up finds it, of the same
-- column and with the same value. Assumes nothing.
use Rattle.format.specs.Kit.{◌≡◌, refl, sym, ap, ap₂, ◌∙◌, cond, List, [], ◌∷◌, ℕ, suc, ◌+◌, ◌≤◌, ◌<◌, arith, ℤ, pos, Option, none, some, length, get_or}
use Rattle.format.specs.Kit.{lt-ltb, le-ltb, eq-eqb, ne_eqb}
use Rattle.format.specs.Limits.{max_id}
use Rattle.format.specs.Ids.{count_below}
use Rattle.format.specs.Editions.{Edition, editions}
use Rattle.format.specs.Pairs.{Pairs, Asc}
use Rattle.format.specs.Refusals.{done}
use Rattle.format.specs.Check.{check}
use Rattle.format.specs.Walk.{listed}
use Rattle.format.specs.Layered.{Layer, machine, correction, LayeredLook, found_in, absent_in, refused_by, look_up_layered, lists_answer}
use Rattle.laws.proofs.Cases.{below_or, equal_or, true_or}
use Rattle.laws.proofs.Place.{count_higher, listed_higher}
use Rattle.laws.proofs.Lawful.{LawfulReader}
use Rattle.laws.proofs.Editions.{lawful_reader}
use Rattle.laws.proofs.Unique.{is_read}
use Rattle.laws.proofs.Demands.{Holds, checked_answers_all}
use Rattle.laws.proofs.Layered.{lists_answer_lem}
use Rattle.format.specs.LayeredReading.{LayeredPair, pairs_of, merged, pair_with, or_below, next_of_both, read_layered, lists_read, reads_from, calls_from}
use Rattle.laws.proofs.MergedPairs.{by_members}
use Rattle.laws.proofs.MergedReadings.{merged_read, merged_reads, merged_calls}

abbrev pair_of : Layer → ℕ → ℤ → LayeredPair
pair_of layer id v = record { layer = layer; id = id; value = v }

-- the pair that a look-up for an id finds
unfoldable pub found_pair : ℕ → LayeredLook → Option LayeredPair
found_pair id (found_in layer o v w k) = some (pair_of layer id v)
found_pair id (absent_in w k) = none
found_pair id (refused_by layer why x) = none

-- one list's
abbrev listed_pair : Layer → ℕ → List ℕ → List ℤ → Option LayeredPair
listed_pair layer id is vs = cond (listed id is) (some (pair_of layer id (get_or vs (count_below id is) (pos 0)))) none

pairs_at : (layer : Layer) (a id : ℕ) (is : List ℕ) (vs : List ℤ) → Asc a is → length is ≡ length vs → pair_with id (pairs_of layer is vs) ≡ listed_pair
    layer id is vs
unfolding pairs_of pair_with listed count_below
pairs_at layer a id [] vs s e = refl
pairs_at layer a id (i ∷ is) [] s e = absurd (omega arith)
pairs_at layer a id (i ∷ is) (v ∷ vs) s e =
    equal_or i id
    (λ q. rw (eq-eqb i id q, le-ltb i id (omega arith), count_higher id (suc i) is (omega arith) s.1) (ap (λ (n : ℕ). some (pair_of layer n v)) q))
    (λ q.
    below_or i id
    (λ l.
    let one : 1 + count_below id is ≡ suc (count_below id is) = omega arith in
    rw (ne_eqb i id q, lt-ltb i id l, one) (pairs_at layer (suc i) id is vs s.1 (omega arith)))
    (λ l.
    let no_more = listed_higher id (suc i) is (omega arith) s.1 in
    rw (ne_eqb i id q, no_more) (pairs_at layer (suc i) id is vs s.1 (omega arith) ∙ rw no_more refl)))

of_lists : (p : ℕ) (m : Pairs) (k : ℕ) (c : Pairs) (id : ℕ)
    → found_pair id (lists_answer p m k c id) ≡ or_below (listed_pair correction id c.ids c.values) (listed_pair machine id m.ids m.values)
unfolding lists_answer found_pair or_below
of_lists p m k c id =
    true_or (listed id c.ids) (λ i. rw i refl) (λ i. true_or (listed id m.ids) (λ j. rw (i, j) refl) (λ j. rw (i, j) refl))

module _ (known : List Edition) (laws : LawfulReader known) (m c : List ℕ) (x : Holds known m) (y : Holds known c) where
  pub looked_pair : (id : ℕ) → id ≤ max_id → pair_with id (merged x.pairs y.pairs) ≡ found_pair id (look_up_layered known m c id)
  looked_pair id h =
      let u = (is_read known laws m x.opened x.pairs x.is_opened x.is_accepted).valid in
      let v = (is_read known laws c y.opened y.pairs y.is_opened y.is_accepted).valid in
      by_members id _ _
      ∙ ap₂ or_below
      (pairs_at correction 0 id y.pairs.ids y.pairs.values v.ascending v.lengths)
      (pairs_at machine 0 id x.pairs.ids x.pairs.values u.ascending u.lengths)
      ∙ sym (ap (found_pair id) (lists_answer_lem known m c x y id h) ∙ of_lists x.opened.head.power x.pairs y.opened.head.power y.pairs id)

-- ---- bytes that the check accepts, and the lists that they hold

module _ (m c : List ℕ) (i j : ℕ) (e : check editions m ≡ done i) (f : check editions c ≡ done j) where
  abbrev below : Holds editions m
  below = checked_answers_all m i e

  abbrev above : Holds editions c
  above = checked_answers_all c j f

  pub checked_read : (t room : ℕ) → read_layered editions m c t room ≡ lists_read below.pairs above.pairs t room
  checked_read =
      merged_read editions (lawful_reader editions) m below.opened below.pairs below.is_opened below.is_accepted c above.opened above.pairs
      above.is_opened above.is_accepted

  pub checked_reads : (n k : ℕ) → 0 < k → length (merged below.pairs above.pairs) ≤ n
      → reads_from n k (next_of_both m below.opened c above.opened) 0 ≡ merged below.pairs above.pairs
  checked_reads =
      merged_reads editions (lawful_reader editions) m below.opened below.pairs below.is_opened below.is_accepted c above.opened above.pairs
      above.is_opened above.is_accepted

  pub checked_calls : (n k : ℕ) → 0 < k → length (merged below.pairs above.pairs) ≤ n
      → calls_from n k (read_layered editions m c) 0 ≡ merged below.pairs above.pairs
  checked_calls =
      merged_calls editions (lawful_reader editions) m below.opened below.pairs below.is_opened below.is_accepted c above.opened above.pairs
      above.is_opened above.is_accepted

  pub checked_pair : (id : ℕ) → id ≤ max_id → pair_with id (merged below.pairs above.pairs) ≡ found_pair id (look_up_layered editions m c id)
  checked_pair = looked_pair editions (lawful_reader editions) m c below above
