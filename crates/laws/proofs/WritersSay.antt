-- Document 01, "Refusal numbers", and document 02, [6], [12], [14]: the writers and the planner answer exactly by their tables
-- (format/specs/Says.antt), on every input. Assumes nothing.
use Rattle.format.specs.Kit.{◌≡◌, ◌↔◌, refl, sym, ap, ◌∙◌, Bool, true, false, List, Option, none, some, ℕ, arith}
use Rattle.format.specs.Kit.{ℤ, length, leb, leb-true, leb-false, le-leb, lt-leb, eq-eqb, ne_eqb}
use Rattle.format.specs.Limits.{power_ok}
use Rattle.format.specs.Refusals.{Outcome, done, refused, need, need_none, LENGTHS, POWER, ORDER, RANGE, ROOM, BUFFER, PLAN}
use Rattle.format.specs.Pairs.{ValidIds}
use Rattle.format.specs.Editions.{Edition, number_of, editions, edition_in}
use Rattle.format.specs.Column.{column}
use Rattle.format.specs.Table.{max_entries}
use Rattle.format.specs.Plan.{plan_ok, planned, plan_edition, chosen, plan}
use Rattle.format.specs.Writer.{order_fault, range_fault, write_if, write_as, write_planned, write}
use Rattle.format.specs.SetBytes.{set_bytes, set_write}
use Rattle.format.specs.Says.{Within, ListSays, WriteSays, PlannedSays, PlanSays, SetSays}
use Rattle.laws.proofs.Cases.{equal_or, true_or}
use Rattle.laws.proofs.Editions.{knows_all, found_number}
use Rattle.laws.proofs.Plans.{chosen_takes}
use Rattle.laws.proofs.Demands.{told, told_other, told_lengths}
use Rattle.laws.proofs.RoundTrip.{in_order, in_range}
use Rattle.laws.proofs.Unique.{ordered, ranged}
use Rattle.laws.proofs.FirstIndex.{order_first, range_first}

none_or : {X : Type 0} (o : Option ℕ) → (o ≡ none → X) → ((i : ℕ) → o ≡ some i → X) → X
none_or none f g = f refl
none_or (some i) f g = g i refl

-- ---- the writers

module _ (p : ℕ) (ids : List ℕ) (fits : Bool) (col : List ℕ) (room : ℕ) where
  abbrev tests : Outcome (List ℕ)
  tests =
      need (power_ok p) POWER 0
      (need_none (order_fault ids) ORDER
      (need_none (range_fault 0 ids) RANGE
      (need fits PLAN 0
      (need (leb (length col) room) ROOM (length col)
      (done col)))))

  tests_say : (o : Outcome (List ℕ)) → tests ≡ o → ListSays p ids fits col room o
  unfolding need need_none
  tests_say o e =
      true_or (power_ok p)
      (λ hp.
      none_or (order_fault ids)
      (λ ho.
      none_or (range_fault 0 ids)
      (λ hr.
      let in_limits : Within p ids = record { power = hp; ascending = ordered ids ho; range = ranged 0 ids hr } in
      true_or fits
      (λ hf.
      true_or (leb (length col) room)
      (λ hl. ListSays.written in_limits hf (leb-true (length col) room hl) (sym e ∙ rw (hp, ho, hr, hf, hl) refl))
      (λ hl. ListSays.no_room in_limits hf (leb-false (length col) room hl) (sym e ∙ rw (hp, ho, hr, hf, hl) refl)))
      (λ hf. ListSays.no_plan in_limits hf (sym e ∙ rw (hp, ho, hr, hf) refl)))
      (λ i hr. ListSays.range hp (ordered ids ho) i ((range_first ids i).0 hr) (sym e ∙ rw (hp, ho, hr) refl)))
      (λ i ho. ListSays.order hp i ((order_first ids i).0 ho) (sym e ∙ rw (hp, ho) refl)))
      (λ hp. ListSays.power hp (sym e ∙ rw hp refl))

  say_tests : (o : Outcome (List ℕ)) → ListSays p ids fits col room o → tests ≡ o
  unfolding need need_none
  say_tests o (ListSays.power hp e) = rw hp (sym e)
  say_tests o (ListSays.order hp i f e) = rw (hp, (order_first ids i).1 f) (sym e)
  say_tests o (ListSays.range hp t i f e) = rw (hp, in_order ids t, (range_first ids i).1 f) (sym e)
  say_tests o (ListSays.no_plan a hf e) = rw (a.power, in_order ids a.ascending, in_range 0 ids a.range, hf) (sym e)
  say_tests o (ListSays.no_room a hf l e) =
      rw (a.power, in_order ids a.ascending, in_range 0 ids a.range, hf, lt-leb (length col) room l) (sym e)
  say_tests o (ListSays.written a hf l e) =
      rw (a.power, in_order ids a.ascending, in_range 0 ids a.range, hf, le-leb (length col) room l) (sym e)

module _ {X : Type 0} (k : ℕ) (f : (ed : Edition) → k ≡ number_of ed → X) (g : ((ed : Edition) → k ≡ number_of ed → ⊥) → edition_in editions k ≡ none → X) where
  edition_or : X
  edition_or = go (edition_in editions k) refl
    where
      go : (o : Option Edition) → edition_in editions k ≡ o → X
      go (some ed) e = f ed (found_number editions k ed e)
      go none e =
          g (λ ed h.
          let q : edition_in editions k ≡ some ed = ap (edition_in editions) h ∙ knows_all ed in
          let z : ◌≡◌ {A = ℕ} 0 1 = cc in
          omega arith) e

module _ (k p : ℕ) (ids : List ℕ) (vs : List ℤ) (room : ℕ) where
  told_tests : length ids ≡ length vs → (ed : Edition) → k ≡ number_of ed → write k p ids vs room ≡ tests p ids true (column (chosen ed vs) p ids vs) room
  unfolding write_as write_if need
  told_tests l ed e =
      ap (λ (k : ℕ). write k p ids vs room) e ∙ told ed p ids vs room ∙ rw (eq-eqb (length ids) (length vs) l, chosen_takes ed vs) refl

  pub write_exactly : (o : Outcome (List ℕ)) → (write k p ids vs room ≡ o) ↔ WriteSays k p ids vs room o
  write_exactly o = (to, from)
    where
      to : write k p ids vs room ≡ o → WriteSays k p ids vs room o
      to e =
          equal_or (length ids) (length vs)
          (λ l.
          edition_or k
          (λ ed q. WriteSays.in_edition l ed q (tests_say p ids true (column (chosen ed vs) p ids vs) room o (sym (told_tests l ed q) ∙ e)))
          (λ h n. WriteSays.no_edition l h (sym e ∙ told_other k p ids vs room l n)))
          (λ l. WriteSays.lengths l (sym e ∙ told_lengths k p ids vs room l))

      from : WriteSays k p ids vs room o → write k p ids vs room ≡ o
      from (WriteSays.lengths l e) = told_lengths k p ids vs room l ∙ sym e
      from (WriteSays.no_edition l h e) =
          edition_or k
          (λ ed q. absurd (h ed q))
          (λ g n. told_other k p ids vs room l n ∙ sym e)
      from (WriteSays.in_edition l ed q s) = told_tests l ed q ∙ say_tests p ids true (column (chosen ed vs) p ids vs) room o s

module _ (p : ℕ) (ids : List ℕ) (vs us : List ℤ) (room : ℕ) where
  planned_tests : length ids ≡ length vs → write_planned p ids vs us room ≡ tests p ids (plan_ok us vs) (column (plan_edition us) p ids vs) room
  unfolding write_planned write_if need
  planned_tests l = rw (eq-eqb (length ids) (length vs) l) refl

  planned_lengths : (length ids ≡ length vs → ⊥) → write_planned p ids vs us room ≡ refused LENGTHS 0
  unfolding write_planned write_if need
  planned_lengths l = rw (ne_eqb (length ids) (length vs) l) refl

  pub planned_exactly : (o : Outcome (List ℕ)) → (write_planned p ids vs us room ≡ o) ↔ PlannedSays p ids vs us room o
  planned_exactly o = (to, from)
    where
      to : write_planned p ids vs us room ≡ o → PlannedSays p ids vs us room o
      to e =
          equal_or (length ids) (length vs)
          (λ l. PlannedSays.by_plan l (tests_say p ids (plan_ok us vs) (column (plan_edition us) p ids vs) room o (sym (planned_tests l) ∙ e)))
          (λ l. PlannedSays.lengths l (sym e ∙ planned_lengths l))

      from : PlannedSays p ids vs us room o → write_planned p ids vs us room ≡ o
      from (PlannedSays.lengths l e) = planned_lengths l ∙ sym e
      from (PlannedSays.by_plan l s) = planned_tests l ∙ say_tests p ids (plan_ok us vs) (column (plan_edition us) p ids vs) room o s

  -- in the sentence's words: 17 exactly where all else but the room is in order and the small check does not take the plan
  pub seventeen_exactly : (w : ℕ) → (write_planned p ids vs us room ≡ refused PLAN w)
      ↔ ((length ids ≡ length vs) × Within p ids × (plan_ok us vs ≡ false) × (w ≡ 0))
  seventeen_exactly w = (λ e. to ((planned_exactly (refused PLAN w)).0 e), λ s. (planned_exactly (refused PLAN w)).1 (from s))
    where
      from : (length ids ≡ length vs) × Within p ids × (plan_ok us vs ≡ false) × (w ≡ 0) → PlannedSays p ids vs us room (refused PLAN w)
      from s = PlannedSays.by_plan s.0 (ListSays.no_plan s.1 s.2 (ap {B = Outcome (List ℕ)} (λ (n : ℕ). refused PLAN n) s.3))

      to : PlannedSays p ids vs us room (refused PLAN w) → (length ids ≡ length vs) × Within p ids × (plan_ok us vs ≡ false) × (w ≡ 0)
      to (PlannedSays.lengths l e) = absurd (let z : PLAN ≡ LENGTHS = cc in omega arith)
      to (PlannedSays.by_plan l (ListSays.power hp e)) = absurd (let z : PLAN ≡ POWER = cc in omega arith)
      to (PlannedSays.by_plan l (ListSays.order hp i f e)) = absurd (let z : PLAN ≡ ORDER = cc in omega arith)
      to (PlannedSays.by_plan l (ListSays.range hp t i f e)) = absurd (let z : PLAN ≡ RANGE = cc in omega arith)
      to (PlannedSays.by_plan l (ListSays.no_plan a hf e)) = (l, a, hf, cc)
      to (PlannedSays.by_plan l (ListSays.no_room a hf q e)) = absurd (let z : PLAN ≡ ROOM = cc in omega arith)
      to (PlannedSays.by_plan l (ListSays.written a hf q e)) = absurd (let z : ◌≡◌ {A = ℕ} 0 1 = cc in omega arith)

pub plan_exactly : (vs : List ℤ) (room : ℕ) (o : Outcome (List ℤ)) → (plan vs room ≡ o) ↔ PlanSays vs room o
unfolding plan need
plan_exactly vs room o = (to, from)
  where
    to : need (leb max_entries room) BUFFER max_entries (done (planned vs)) ≡ o → PlanSays vs room o
    to e =
        true_or (leb max_entries room)
        (λ h. PlanSays.proposed (leb-true max_entries room h) (sym e ∙ rw h refl))
        (λ h. PlanSays.buffer (leb-false max_entries room h) (sym e ∙ rw h refl))

    from : PlanSays vs room o → need (leb max_entries room) BUFFER max_entries (done (planned vs)) ≡ o
    from (PlanSays.buffer h e) = rw (lt-leb max_entries room h) (sym e)
    from (PlanSays.proposed h e) = rw (le-leb max_entries room h) (sym e)

module _ (ids : List ℕ) (room : ℕ) (o : Outcome (List ℕ)) where
  valid : order_fault ids ≡ none → range_fault 0 ids ≡ none → ValidIds ids
  valid ho hr = record { ascending = ordered ids ho; range = ranged 0 ids hr }

  set_says : set_write ids room ≡ o → SetSays ids room o
  unfolding set_write need need_none
  set_says e =
      none_or (order_fault ids)
      (λ ho.
      none_or (range_fault 0 ids)
      (λ hr.
      true_or (leb (length (set_bytes ids)) room)
      (λ hl. SetSays.written (valid ho hr) (leb-true (length (set_bytes ids)) room hl) (sym e ∙ rw (ho, hr, hl) refl))
      (λ hl. SetSays.no_room (valid ho hr) (leb-false (length (set_bytes ids)) room hl) (sym e ∙ rw (ho, hr, hl) refl)))
      (λ i hr. SetSays.range (ordered ids ho) i ((range_first ids i).0 hr) (sym e ∙ rw (ho, hr) refl)))
      (λ i ho. SetSays.order i ((order_first ids i).0 ho) (sym e ∙ rw ho refl))

  said_set : SetSays ids room o → set_write ids room ≡ o
  unfolding set_write need need_none
  said_set (SetSays.order i f e) = rw ((order_first ids i).1 f) (sym e)
  said_set (SetSays.range t i f e) = rw (in_order ids t, (range_first ids i).1 f) (sym e)
  said_set (SetSays.no_room a l e) = rw (in_order ids a.ascending, in_range 0 ids a.range, lt-leb (length (set_bytes ids)) room l) (sym e)
  said_set (SetSays.written a l e) = rw (in_order ids a.ascending, in_range 0 ids a.range, le-leb (length (set_bytes ids)) room l) (sym e)

  pub set_exactly : (set_write ids room ≡ o) ↔ SetSays ids room o
  set_exactly = (set_says, said_set)
