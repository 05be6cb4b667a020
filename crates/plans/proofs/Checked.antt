-- The tests of the small check and of the planner in the definitions' words; a value's mark. Assumes nothing.
use Rattle.format.specs.Kit.{◌≡◌, refl, sym, ap, ◌∙◌, subst, Bool, true, false, ◌&&◌, and-false, List, [], ◌∷◌, ◌++◌, map, ℕ, suc, ◌+◌, ◌<◌, ◌≤◌}
use Rattle.format.specs.Kit.{add-one, arith, leb, ℤ, pos, length, get_or, drop, drop-cons, drop_of_length-le, set, length-set, take, le-leb, lt-leb}
use Rattle.format.specs.Limits.{max_count}
use Rattle.format.specs.Pairs.{Each, Fits}
use Rattle.format.specs.Editions.{plain, codec}
use Rattle.format.specs.Table.{table_of, code_in, ascends, is_in, all_in, table_ok}
use Rattle.format.specs.Plan.{plan_ok, plan_of, planned}
use Rattle.laws.proofs.Cases.{true_or, below_or}
use Rattle.laws.proofs.Ascending.{In, in_at, coded, each_all, table_ascends, table_has, table_only}
use Rattle.laws.proofs.Plans.{shorter_by_table}
use Rattle.tables.specs.Holds.{Stands, Holds}
use Rattle.tables.specs.Marks.{marked}
use Rattle.table_values.specs.Saves.{saves}

-- ---- a value in the table

stands_in : (us : List ℤ) (k : ℕ) (v : ℤ) → Stands us k v → is_in us v ≡ true
stands_in us k v s = subst (In us) s.1 (in_at us k (pos 0) s.0)

not_in : (us : List ℤ) (v : ℤ) → ascends us ≡ true → (Stands us (code_in us v) v → ⊥) → is_in us v ≡ false
not_in us v up h =
    true_or (is_in us v) (λ e. absurd (h (let c = coded us v up e in (c.within, c.there)))) (λ e. e)

-- of the values from i on it is still to be asked whether each is there, and their marks are still to be set
pub record Marking (us vs : List ℤ) (m₀ m : List ℕ) (i : ℕ) : Type 0 where
  pub size : length m ≡ length m₀
  pub asked : all_in us vs ≡ all_in us (drop i vs)
  pub marks : marked m (map (code_in us) (drop i vs)) ≡ marked m₀ (map (code_in us) vs)

pub marking_none : (us vs : List ℤ) (m : List ℕ) → Marking us vs m m 0
marking_none us vs m = record { size = refl; asked = refl; marks = refl }

module _ {us vs : List ℤ} {m₀ m : List ℕ} {i : ℕ} (g : Marking us vs m₀ m i) (v : ℤ) (more : i < length vs) (is : get_or vs i (pos 0) ≡ v) where
  next : drop i vs ≡ v ∷ drop (i + 1) vs
  next = rw add-one (drop-cons vs i (pos 0) more ∙ ap {B = List ℤ} (λ (x : ℤ). x ∷ drop (suc i) vs) is)

  pub marking_stop : ascends us ≡ true → (Stands us (code_in us v) v → ⊥) → false ≡ all_in us vs
  unfolding all_in
  marking_stop up h = sym (g.asked ∙ ap (all_in us) next ∙ rw (not_in us v up h))

  pub marking_more : Stands us (code_in us v) v → Marking us vs m₀ (set m (code_in us v) 1) (i + 1)
  unfolding all_in marked
  marking_more h =
      record {
        size = length-set m (code_in us v) 1 ∙ g.size;
        asked = g.asked ∙ ap (all_in us) next ∙ rw (stands_in us (code_in us v) v h);
        marks = sym (ap (λ (l : List ℤ). marked m (map (code_in us) l)) next) ∙ g.marks;
      }

pub marking_end : {us vs : List ℤ} {m₀ m : List ℕ} {i : ℕ} → Marking us vs m₀ m i → length vs ≤ i
    → (true ≡ all_in us vs) × (m ≡ marked m₀ (map (code_in us) vs))
unfolding all_in marked
marking_end {us} {vs} {m₀} {m} {i} g h =
    let none_left : drop i vs ≡ [] = drop_of_length-le vs h in
    (sym (g.asked ∙ ap (all_in us) none_left), sym (ap (λ (l : List ℤ). marked m (map (code_in us) l)) none_left) ∙ g.marks)

-- ---- the small check

module _ (us vs : List ℤ) where
  -- plain, and what is not
  pub plain_taken : length us ≡ 0 → true ≡ plan_ok us vs
  unfolding plan_ok
  plain_taken e = by us e
    where
      by : (l : List ℤ) → length l ≡ 0 → true ≡ plan_ok l vs
      by [] e = refl
      by (u ∷ l) e = absurd (omega arith)

  table_asked : (length us ≡ 0 → ⊥) → plan_ok us vs ≡ table_ok (codec plain) us vs
  unfolding plan_ok
  table_asked h = by us h
    where
      by : (l : List ℤ) → (length l ≡ 0 → ⊥) → plan_ok l vs ≡ table_ok (codec plain) l vs
      by [] h = absurd (h refl)
      by (u ∷ l) h = refl

  module _ (h : length us ≡ 0 → ⊥) where
    pub few_entries : length us < 2 → false ≡ plan_ok us vs
    unfolding table_ok
    few_entries l = sym (table_asked h ∙ rw (lt-leb 2 (length us) l))

    pub many_entries : 256 < length us → false ≡ plan_ok us vs
    unfolding table_ok
    many_entries l = sym (table_asked h ∙ rw (lt-leb (length us) 256 l, and-false))

    pub not_ascending : ascends us ≡ false → false ≡ plan_ok us vs
    unfolding table_ok
    not_ascending e = sym (table_asked h ∙ rw (e, and-false))

    pub other_members : (all_in us vs ≡ true → all_in vs us ≡ false) → false ≡ plan_ok us vs
    unfolding table_ok
    other_members f =
        sym (table_asked h ∙ true_or (all_in us vs) (λ e. rw (f e, and-false)) (λ e. rw (e, and-false)))

    pub all_asked : 2 ≤ length us → length us ≤ 256 → ascends us ≡ true → all_in us vs ≡ true → all_in vs us ≡ true → saves us (length vs) ≡ plan_ok us vs
    unfolding table_ok saves
    all_asked l m up a b =
        sym (table_asked h ∙ rw (le-leb 2 (length us) l, le-leb (length us) 256 m, up, a, b) (shorter_by_table us vs a b))

-- ---- the planner

-- of the values' own table only the number of its entries and the bytes are asked
pub own_table : (vs : List ℤ) → table_ok (codec plain) (table_of vs) vs
    ≡ (leb 2 (length (table_of vs)) && leb (length (table_of vs)) 256 && saves (table_of vs) (length vs))
unfolding table_ok saves
own_table vs =
    let a : all_in (table_of vs) vs ≡ true = each_all (table_of vs) vs (table_has vs) in
    let b : all_in vs (table_of vs) ≡ true = each_all vs (table_of vs) (table_only vs) in
    rw (table_ascends vs, a, b, shorter_by_table (table_of vs) vs a b)
    (true_and (leb 2 (length (table_of vs)) && leb (length (table_of vs)) 256) _)
  where
    true_and : (t x : Bool) → t && true && true && true && x ≡ t && x
    true_and true x = refl
    true_and false x = refl

module _ (vs : List ℤ) where
  pub too_long : max_count < length vs → planned vs ≡ []
  unfolding planned
  too_long h = rw (lt-leb (length vs) max_count h)

  module _ (n : length vs ≤ max_count) (t : ℕ) (table : List ℤ) (h : Holds 256 (table_of vs) t table) where
    not_own : table_ok (codec plain) (table_of vs) vs ≡ false → planned vs ≡ []
    unfolding planned plan_of
    not_own e = rw (le-leb (length vs) max_count n, e)

    pub few_values : t < 2 → planned vs ≡ []
    few_values l =
        below_or 256 (length (table_of vs))
        (λ k. absurd (omega (arith, h.many k)))
        (λ k. not_own (own_table vs ∙ rw (lt-leb 2 (length (table_of vs)) (omega (arith, (h.few k).0)))))

    pub many_values : 256 < t → planned vs ≡ []
    many_values l =
        below_or 256 (length (table_of vs))
        (λ k. not_own (own_table vs ∙ rw (lt-leb (length (table_of vs)) 256 k, and-false)))
        (λ k. absurd (omega (arith, (h.few k).0)))

    module _ (least : 2 ≤ t) (most : t ≤ 256) where
      count : (t ≡ length (table_of vs)) × (take t table ≡ table_of vs)
      count =
          below_or 256 (length (table_of vs))
          (λ k. absurd (omega (arith, h.many k)))
          (λ k. h.few k)

      pub no_saving : saves (take t table) (length vs) ≡ false → planned vs ≡ []
      no_saving e =
          not_own (own_table vs ∙ rw (sym (ap (λ (l : List ℤ). saves l (length vs)) count.1) ∙ e, and-false))

      pub own_plan : saves (take t table) (length vs) ≡ true → planned vs ≡ take t table
      unfolding planned plan_of
      own_plan e =
          let c = count in
          let ok : table_ok (codec plain) (table_of vs) vs ≡ true =
          own_table vs
          ∙ rw (le-leb 2 (length (table_of vs)) (omega (arith, c.0)), le-leb (length (table_of vs)) 256 (omega (arith, c.0)))
          (sym (ap (λ (l : List ℤ). saves l (length vs)) c.1) ∙ e) in
          rw (le-leb (length vs) max_count n, ok) (sym c.1)

-- plain changes nothing
pub kept_plain : (l out : List ℤ) → l ≡ [] → (0 ≡ length l) × (0 ≤ 256) × Each Fits l × (out ≡ l ++ drop (length l) out)
kept_plain l out e = rw e (refl, omega arith, tt, refl)
