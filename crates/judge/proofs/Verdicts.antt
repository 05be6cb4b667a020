-- Document 02, [9], the whole answer on any bytes, stated once over the byte order: accepted with the count exactly if some list gives the
-- section; a reason and a place exactly if they are right; HEADER exactly outside the limits. Assumes nothing.
use Rattle.format.specs.Kit.{◌≡◌, ◌↔◌, refl, sym, ap, ap₂, ◌∙◌, Bool, true, false, List, ◌++◌, ℕ, arith, leb, length, take, drop, take_at, le-leb}
use Rattle.format.specs.Limits.{Power, power_ok, max_jumps}
use Rattle.format.specs.Refusals.{Outcome, done, refused, need, HEADER}
use Rattle.format.specs.Bytes.{bytes_of}
use Rattle.format.specs.Ids.{runs, jumps}
use Rattle.format.specs.Pairs.{Below}
use Rattle.format.specs.Orders.{Order, block_in, end_in, entry_in, id_section_in}
use Rattle.format.specs.Judge.{judge, Verdict, accepted, faulty, as_verdict, limits_ok, judge_section}
use Rattle.format.specs.Lists.{SectionIn}
use Rattle.format.specs.JudgeFaults.{Before, Why}
use Rattle.laws.proofs.Bounds.{jumps_le}
use Rattle.laws.proofs.Jumps.{asc_blocks}
use Rattle.laws.proofs.Rules.{power_fact}
use Rattle.laws.proofs.Runs.{fine_runs}
use Rattle.laws.proofs.Tests.{result, needed, both_true}
use Rattle.judge.proofs.Standing.{length_blocks_in}
use Rattle.judge.proofs.Judged.{judge_sound, judge_complete}
use Rattle.judge.proofs.Why.{right, told}
use Rattle.judge.proofs.Reasons.{Numbered, numbered}

is_accepted : (x : Outcome ℕ) (n : ℕ) → (as_verdict x ≡ accepted n) ↔ (x ≡ done n)
is_accepted (done m) n = (λ e. cc, λ e. cc)
is_accepted (refused why at) n =
    (λ e. absurd (let z : ◌≡◌ {A = ℕ} 0 1 = cc in omega arith), λ e. absurd (let z : ◌≡◌ {A = ℕ} 0 1 = cc in omega arith))

is_faulty : (x : Outcome ℕ) (why to : ℕ) → (as_verdict x ≡ faulty why to) ↔ (x ≡ refused why to)
is_faulty (done m) why to =
    (λ e. absurd (let z : ◌≡◌ {A = ℕ} 0 1 = cc in omega arith), λ e. absurd (let z : ◌≡◌ {A = ℕ} 0 1 = cc in omega arith))
is_faulty (refused k at) why to = (λ e. cc, λ e. cc)

few_entries : (o : Order) (p j : ℕ) (s : List ℕ) (n : ℕ) → SectionIn o p j s n → leb j max_jumps ≡ true
few_entries o p j s n c =
    le-leb j max_jumps
    (omega (arith, c.entries, jumps_le p c.ids (asc_blocks 0 c.ids c.ascending) (fine_runs c.ids c.ascending c.range)))

module _ (o : Order) (p j : ℕ) (s : List ℕ) (u : Below 256 s) where
  power : limits_ok p j ≡ true → Power p
  power e = power_fact p (both_true (power_ok p) (leb j max_jumps) e).0

  -- accepted with n exactly if some list within the limits gives these bytes and that entry count at that power
  pub accepts : (n : ℕ) → (judge_section o p j s ≡ done (accepted n)) ↔ ((power_ok p ≡ true) × SectionIn o p j s n)
  unfolding judge_section need
  accepts n = (
    λ h.
        let a = needed _ _ _ _ (accepted n) h in
        let v = (is_accepted (judge o p j s) n).0 (ap (result (accepted n)) a.1) in
        ((both_true (power_ok p) (leb j max_jumps) a.0).0, judge_sound o p (power a.0) s j n u v),
    λ c. rw (c.0, few_entries o p j s n c.1, judge_complete o p (power_fact p c.0) s j n c.1) refl,
  )

  -- a reason and a place exactly if they are right
  pub faults : (why to : ℕ) → (judge_section o p j s ≡ done (faulty why to)) ↔ ((limits_ok p j ≡ true) × Why o p j s why to)
  unfolding judge_section need
  faults why to = (
    λ h.
        let a = needed _ _ _ _ (faulty why to) h in
        (a.0, right o p (power a.0) s j why to u ((is_faulty (judge o p j s) why to).0 (ap (result (faulty why to)) a.1))),
    λ c. rw (c.0, told o p (power c.0) s j why to c.1) refl,
  )

-- a reason is one of the eight
pub reason_numbered : (o : Order) (p j : ℕ) (s : List ℕ) (why to : ℕ) → judge_section o p j s ≡ done (faulty why to) → Numbered why
unfolding judge_section
reason_numbered o p j s why to h =
    let a = needed _ _ _ _ (faulty why to) h in
    numbered o p j s why to ((is_faulty (judge o p j s) why to).0 (ap (result (faulty why to)) a.1))

-- and the one refusal is HEADER with 0, exactly outside the limits
pub header : (o : Order) (p j : ℕ) (s : List ℕ) (why w : ℕ) → (judge_section o p j s ≡ refused why w) ↔ ((limits_ok p j ≡ false) × (why ≡ HEADER) × (w ≡ 0))
unfolding judge_section need
header o p j s why w = (go (limits_ok p j) refl, λ c. rw c.0 (ap₂ {C = Outcome Verdict} (λ (a b : ℕ). refused a b) (sym c.1) (sym c.2)))
  where
    go : (b : Bool) → limits_ok p j ≡ b → need b HEADER 0 (done (as_verdict (judge o p j s))) ≡ refused why w
        → (limits_ok p j ≡ false) × (why ≡ HEADER) × (w ≡ 0)
    go true e h = absurd (let z : ◌≡◌ {A = ℕ} 0 1 = cc in omega arith)
    go false e h = (e, cc, cc)

-- the bytes before a faulty block are the beginning of a list's section
pub beginning : (o : Order) (p : ℕ) → Power p → (s : List ℕ) (to n next : ℕ) (b : Before o p s to n next) → take to s ≡ take to (id_section_in o p b.ids)
unfolding id_section_in
beginning o p ok s to n next b =
    let front : List ℕ = bytes_of (block_in o p) (runs b.ids) in
    let full : length front ≡ to = length_blocks_in o p (omega (arith, ok.most)) (runs b.ids) ∙ sym b.place in
    ap (take to) b.bytes ∙ take_at front (drop to s) to full ∙ sym (take_at front (end_in o ++ bytes_of (entry_in o) (jumps p b.ids)) to full)
