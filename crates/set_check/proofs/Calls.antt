-- From the pass over the blocks to the calls. Assumes nothing.
use Rattle.format.specs.Kit.{Bool, List, ◌<◌, ◌∙◌, ◌≡◌, ◌≤◌, ap, ap₂, arith, cond, false, le-leb, leb, length, lt-leb, refl, sym, true, zero-add, ℕ}
use Rattle.format.specs.HeaderNumbers.{number_at}
use Rattle.format.specs.Ids.{Run, count_below}
use Rattle.format.specs.IdsRead.{ids_of}
use Rattle.format.specs.Limits.{max_id}
use Rattle.format.specs.Refusals.{DAMAGED, ID, Outcome, and_then, done, need, refused}
use Rattle.answers.specs.Replies.{refusal_number, refusal_with, refused_as}
use Rattle.format.specs.SetCalls.{Member, blocks_from, member_at, member_in, no_member, set_check, set_find, set_ids}
use Rattle.laws.proofs.Tests.{result}
use Rattle.set_blocks.proofs.Steps.{limit_broken, limit_kept, stopped}
use Rattle.set_check.specs.Tally.{nothing, onto, tallied, tally_of, walked_from}
use Rattle.set_check.specs.declared.Tally.{Tally}
use Rattle.answers.specs.declared.Refusal.{Refusal}

-- ---- the whole walk

then_then : {A B C : Type 0} (o : Outcome A) (f : A → Outcome B) (g : B → Outcome C) → and_then (and_then o f) g ≡ and_then o (λ a. and_then (f a) g)
unfolding and_then
then_then (done a) f g = refl
then_then (refused why w) f g = refl

need_then : {B C : Type 0} (t : Bool) (why w : ℕ) (o : Outcome B) (g : B → Outcome C) → and_then (need t why w o) g ≡ need t why w (and_then o g)
unfolding and_then need
need_then true why w o g = refl
need_then false why w o g = refl

same_then : {A B : Type 0} (o : Outcome A) (f g : A → Outcome B) → ((a : A) → f a ≡ g a) → and_then o f ≡ and_then o g
unfolding and_then
same_then (done a) f g h = h a
same_then (refused why w) f g h = refl

module _ (s : List ℕ) (id : ℕ) where
  -- the list that the blocks give, tallied
  counted_list : (o : Outcome (List Run))
      → and_then (and_then o (λ gs. done (ids_of gs))) (λ ids. done (tally_of id ids)) ≡ and_then o (λ gs. done (onto id nothing gs))
  unfolding and_then
  counted_list (done gs) = rw (zero-add (length (ids_of gs)), zero-add (count_below id (ids_of gs)))
  counted_list (refused why w) = refl

  abbrev from_number : ℕ × ℕ → Outcome Tally
  from_number m = need (leb m.0 32766) DAMAGED 0 (walked_from s id m.0 0 m.1 nothing)

  -- the blocks' list, where their number keeps its limit
  abbrev list_from : ℕ × ℕ → Outcome (List ℕ)
  list_from m = need (leb m.0 32766) DAMAGED 0 (and_then (blocks_from m.0 0 s m.1) (λ gs. done (ids_of gs)))

  from_there : (m : ℕ × ℕ) → and_then (list_from m) (λ ids. done (tally_of id ids)) ≡ from_number m
  unfolding walked_from
  from_there m =
      need_then (leb m.0 32766) DAMAGED 0 _ _
      ∙ ap {B = Outcome Tally} (λ (o : Outcome Tally). need (leb m.0 32766) DAMAGED 0 o) (counted_list (blocks_from m.0 0 s m.1))

  whole : tallied s id ≡ and_then (number_at s 0) from_number
  unfolding tallied set_ids
  whole = then_then (number_at s 0) list_from _ ∙ same_then (number_at s 0) _ from_number from_there

  pub walk_stop : (why : Refusal) → refused_as why ≡ number_at s 0 → refused_as why ≡ tallied s id
  walk_stop why e = stopped why (number_at s 0) from_number e ∙ sym whole

  module _ (v n : ℕ) (e : done (v, n) ≡ number_at s 0) where
    pub walk_limit : leb v 32766 ≡ false → refused DAMAGED 0 ≡ tallied s id
    walk_limit l = limit_broken v n (number_at s 0) (λ m. leb m.0 32766) (λ m. walked_from s id m.0 0 m.1 nothing) e l ∙ sym whole

    pub walk_next : leb v 32766 ≡ true → walked_from s id v 0 n nothing ≡ tallied s id
    walk_next l = limit_kept v n (number_at s 0) (λ m. leb m.0 32766) (λ m. walked_from s id m.0 0 m.1 nothing) e l ∙ sym whole

-- ---- the calls

module _ (s : List ℕ) (id : ℕ) where
  -- a refusal of the list is the call's, whatever is made of the list
  refused_list : (why : Refusal) (o : Outcome (List ℕ)) {B : Type 0} (g : List ℕ → Outcome B) → refused_as why ≡ and_then o (λ ids. done (tally_of id ids))
      → refused_as why ≡ and_then o g
  unfolding and_then
  refused_list why (refused x y) g h =
      let a : refusal_number why ≡ x = cc in
      let b : refusal_with why ≡ y = cc in
      ap₂ {C = Outcome _} (λ (i j : ℕ). refused i j) a b
  refused_list why (done ids) g h = absurd (let z : ◌≡◌ {A = ℕ} 0 1 = cc in omega arith)

  tally_list : (t : Tally) (o : Outcome (List ℕ)) → done t ≡ and_then o (λ ids. done (tally_of id ids)) → (ids : List ℕ) × (o ≡ done ids) × (t ≡ tally_of id ids)
  unfolding and_then
  tally_list t (done ids) h = (ids, refl, ap (result t) h)
  tally_list t (refused x y) h = absurd (let z : ◌≡◌ {A = ℕ} 0 1 = cc in omega arith)

  pub check_refused : (why : Refusal) → refused_as why ≡ tallied s id → refused_as why ≡ set_check s
  unfolding set_check tallied
  check_refused why e = refused_list why (set_ids s) _ e

  pub check_done : (t : Tally) → done t ≡ tallied s id → done t.count ≡ set_check s
  unfolding set_check tallied and_then
  check_done t e =
      let i = tally_list t (set_ids s) e in
      rw i.1 (ap {B = Outcome ℕ} (λ (x : Tally). done x.count) i.2)

  pub find_refused : (why : Refusal) → refused_as why ≡ tallied s id → id ≤ max_id → refused_as why ≡ set_find s id
  unfolding set_find tallied need
  find_refused why e k = rw (le-leb id max_id k) (refused_list why (set_ids s) _ e)

  pub find_done : (t : Tally) → done t ≡ tallied s id → id ≤ max_id → done (cond t.there (member_at t.below) no_member) ≡ set_find s id
  unfolding set_find tallied and_then need member_in
  find_done t e k =
      let i = tally_list t (set_ids s) e in
      rw (le-leb id max_id k, i.1) (ap {B = Outcome Member} (λ (x : Tally). done (cond x.there (member_at x.below) no_member)) i.2)

pub find_above : (s : List ℕ) (id : ℕ) → max_id < id → refused ID 0 ≡ set_find s id
unfolding set_find need
find_above s id h = rw (lt-leb id max_id h)
