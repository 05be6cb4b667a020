-- The table of a block's tests: what it says where none fails, for the end block and for another, and what makes all of them hold.
-- Assumes nothing.
use Rattle.format.specs.Kit.{◌≡◌, refl, Bool, true, false, cond, List, [], ◌∷◌, none, some, ℕ, suc, ◌+◌, ◌≤◌, arith}
use Rattle.format.specs.Kit.{length, take, drop, leb, leb-true, le-leb, eq-eqb, ne_eqb}
use Rattle.format.specs.Limits.{max_block, end_number}
use Rattle.format.specs.Bytes.{same}
use Rattle.format.specs.Ids.{block_bytes}
use Rattle.format.specs.Orders.{Order, fixed_at, end_in}
use Rattle.format.specs.Judge.{Test, first_failed, tests_at}
use Rattle.laws.proofs.Sizes.{block_total}
use Rattle.laws.proofs.Tests.{both_true}
use Rattle.judge.proofs.Held.{Passed}

-- ---- any table

abbrev pub AllTrue : List Test → Type 0
AllTrue [] = Unit {0}
AllTrue (t ∷ ts) = (t.0 ≡ true) × AllTrue ts

pub none_failed : (ts : List Test) → first_failed ts ≡ none → AllTrue ts
unfolding first_failed
none_failed [] h = tt
none_failed (t ∷ ts) h = go t.0 refl h (none_failed ts)
  where
    go : (b : Bool) → t.0 ≡ b → cond b (first_failed ts) (some t.1) ≡ none → (first_failed ts ≡ none → AllTrue ts) → AllTrue (t ∷ ts)
    go true e h ih = (e, ih h)
    go false e h ih = absurd (let z : ◌≡◌ {A = ℕ} 0 1 = cc in omega arith)

all_true : (ts : List Test) → AllTrue ts → first_failed ts ≡ none
unfolding first_failed
all_true [] a = refl
all_true (t ∷ ts) a = rw a.0 (all_true ts a.1)

-- ---- the table of a place

-- an end block without a fault
pub record EndPassed (o : Order) (s : List ℕ) (at : ℕ) : Type 0 where
  pub whole : at + 6 ≤ length s
  pub six : same (take 6 (drop at s)) (end_in o) ≡ true

-- another block without one, of number k and c ids
pub record BlockPassed (o : Order) (p : ℕ) (s : List ℕ) (at next k c : ℕ) : Type 0 where
  pub whole : at + block_bytes p c ≤ length s
  pub after : next ≤ k
  pub most : k ≤ max_block
  pub its_data : Passed o p s (at + 4) c

module _ (o : Order) (p : ℕ) (s : List ℕ) (at next : ℕ) where
  abbrev k : ℕ
  k = fixed_at o 2 s at

  abbrev c : ℕ
  c = suc (fixed_at o 2 s (at + 2))

  pub end_passed : first_failed (tests_at o p s at next) ≡ none → k ≡ end_number → EndPassed o s at
  unfolding tests_at
  end_passed h e =
      let a = rw (eq-eqb k end_number e) at (none_failed (tests_at o p s at next) h) in
      let w = both_true (leb (at + 4) (length s)) (leb (at + 6) (length s)) a.0 in
      record { whole = leb-true (at + 6) (length s) w.1; six = a.1.1.1.1.1.0 }

  pub block_passed : first_failed (tests_at o p s at next) ≡ none → (k ≡ end_number → ⊥) → BlockPassed o p s at next k c
  unfolding tests_at
  block_passed h e =
      let a = rw (ne_eqb k end_number e) at (none_failed (tests_at o p s at next) h) in
      let w = both_true (leb (at + 4) (length s)) (leb (at + block_bytes p c) (length s)) a.0 in
      let b = both_true (leb next k) (leb k max_block) a.1.0 in
      record {
        whole = leb-true (at + block_bytes p c) (length s) w.1;
        after = leb-true next k b.0;
        most = leb-true k max_block b.1;
        its_data = (a.1.1.0, a.1.1.1.0, a.1.1.1.1.0);
      }

  pub end_passes : k ≡ end_number → EndPassed o s at → first_failed (tests_at o p s at next) ≡ none
  unfolding tests_at
  end_passes e q =
      all_true (tests_at o p s at next)
      (rw (eq-eqb k end_number e, le-leb (at + 4) (length s) (omega (arith, q.whole)), le-leb (at + 6) (length s) q.whole, q.six)
      (refl, (refl, (refl, (refl, (refl, (refl, tt)))))))

  pub block_passes : (k ≡ end_number → ⊥) → BlockPassed o p s at next k c → first_failed (tests_at o p s at next) ≡ none
  unfolding tests_at
  block_passes e q =
      all_true (tests_at o p s at next)
      (rw (ne_eqb k end_number e, le-leb (at + 4) (length s) (omega (arith, q.whole, block_total p c)), le-leb (at + block_bytes p c) (length s) q.whole)
      (rw (le-leb next k q.after, le-leb k max_block q.most, q.its_data.0, q.its_data.1, q.its_data.2)
      (refl, (refl, (refl, (refl, (refl, (refl, tt))))))))
