-- The judge's reasons are numbered 1 to 8, so that none is HEADER. Assumes nothing.
use Rattle.format.specs.Kit.{◌≡◌, refl, subst, Bool, true, false, cond, List, [], ◌∷◌, Option, none, some, ℕ, zero, suc, ◌+◌, ◌≤◌, arith, eqb, lit≤}
use Rattle.format.specs.Limits.{end_number}
use Rattle.format.specs.Refusals.{Outcome, done, refused}
use Rattle.format.specs.Ids.{Entry, block_bytes, not_two}
use Rattle.format.specs.Orders.{Order, fixed_at}
use Rattle.format.specs.Judge.{cut_off, left_over, Test, first_failed, tests_at, unless_fault, Ended, judge_from, jumps_in, judge_entries, judge_rest, judge}
use Rattle.laws.proofs.Tests.{stopped, need_stopped}
use Rattle.judge.proofs.Entries.{missed}

abbrev pub Numbered : ℕ → Type 0
Numbered why = (cut_off ≤ why) × (why ≤ left_over)

abbrev AllNumbered : List Test → Type 0
AllNumbered [] = Unit {0}
AllNumbered (t ∷ ts) = Numbered t.1 × AllNumbered ts

failed_numbered : (ts : List Test) (why : ℕ) → AllNumbered ts → first_failed ts ≡ some why → Numbered why
unfolding first_failed
failed_numbered [] why w h = absurd (let z : ◌≡◌ {A = ℕ} 0 1 = cc in omega arith)
failed_numbered (t ∷ ts) why w h = go t.0 h (failed_numbered ts why w.1)
  where
    go : (b : Bool) → cond b (first_failed ts) (some t.1) ≡ some why → (first_failed ts ≡ some why → Numbered why) → Numbered why
    go true e ih = ih e
    go false e ih = subst Numbered (cc) w.0

table_numbered : (o : Order) (p : ℕ) (s : List ℕ) (at next : ℕ) → AllNumbered (tests_at o p s at next)
unfolding tests_at
table_numbered o p s at next =
    ((lit≤ tt, lit≤ tt), ((lit≤ tt, lit≤ tt), ((lit≤ tt, lit≤ tt), ((lit≤ tt, lit≤ tt), ((lit≤ tt, lit≤ tt), ((lit≤ tt, lit≤ tt), tt))))))

blocks_numbered : (f : ℕ) (o : Order) (p : ℕ) (s : List ℕ) (at n next why to : ℕ) → judge_from f o p s at n next ≡ refused why to → Numbered why
unfolding judge_from unless_fault
blocks_numbered zero o p s at n next why to h =
    let e : cut_off ≡ why = cc in
    (omega arith, omega arith)
blocks_numbered (suc f) o p s at n next why to h =
    let k : ℕ = fixed_at o 2 s at in
    let c : ℕ = suc (fixed_at o 2 s (at + 2)) in
    go (first_failed (tests_at o p s at next)) refl (eqb k end_number) (judge_from f o p s (at + block_bytes p c) (n + c) (suc k)) h
    (blocks_numbered f o p s (at + block_bytes p c) (n + c) (suc k) why to)
  where
    go : (t : Option ℕ) → first_failed (tests_at o p s at next) ≡ t → (b : Bool) (more : Outcome Ended)
        → unless_fault t at (cond b (done (record { start = at; count = n; next = next })) more) ≡ refused why to
        → (more ≡ refused why to → Numbered why) → Numbered why
    go (some x) e b more h ih = failed_numbered (tests_at o p s at next) why (table_numbered o p s at next) (let z : x ≡ why = cc in cc)
    go none e true more h ih = absurd (let z : ◌≡◌ {A = ℕ} 0 1 = cc in omega arith)
    go none e false more h ih = ih h

rest_numbered : (o : Order) (es : List Entry) (j : ℕ) (s : List ℕ) (e : Ended) (why to : ℕ) → judge_rest o es j s e ≡ refused why to → Numbered why
unfolding judge_rest
rest_numbered o es j s e why to h =
    need_stopped _ _ _ _ why to h
    (λ q. (omega arith, omega arith))
    (λ x.
    stopped (judge_entries o es s (e.start + 6)) _ why to x
    (λ y. let q = (missed o s es (e.start + 6) why to y).1 in (omega arith, omega arith))
    (λ b y z.
    need_stopped _ _ _ _ why to z
    (λ q. (omega arith, omega arith))
    (λ q. absurd (let r : ◌≡◌ {A = ℕ} 0 1 = cc in omega arith))))

pub numbered : (o : Order) (p j : ℕ) (s : List ℕ) (why to : ℕ) → judge o p j s ≡ refused why to → Numbered why
unfolding judge
numbered o p j s why to h =
    stopped _ _ why to h
    (λ e. blocks_numbered _ o p s 0 0 0 why to e)
    (λ e d r. rest_numbered o (not_two (jumps_in o p s)) j s e why to r)
