-- What a fault says, and that it is told exactly when it is right, in either byte order. Assumes nothing.
use Rattle.format.specs.Kit.{◌≡◌, refl, sym, ap, ◌∙◌, Bool, true, false, List, [], ◌∷◌, ◌++◌, append-nil, some, ℕ, suc, ◌+◌, ◌-◌, ◌*◌, ◌<◌}
use Rattle.format.specs.Kit.{zero-add, arith, eqb, length, drop, length-append, length-drop, eqb-true, eqb-false, eq-eqb, ne_eqb}
use Rattle.format.specs.Limits.{Power}
use Rattle.format.specs.Refusals.{Outcome, done, refused, and_then, need}
use Rattle.format.specs.Bytes.{bytes_of}
use Rattle.format.specs.Ids.{Run, Entry, runs, jumps, not_two}
use Rattle.format.specs.IdsRead.{ids_of}
use Rattle.format.specs.Pairs.{Below}
use Rattle.format.specs.Runs.{total_bytes, AllFine}
use Rattle.format.specs.Orders.{Order, block_in, entry_in}
use Rattle.format.specs.Judge.{jump_wrong, left_over, first_failed, tests_at, unless_fault, Ended, judge_from, jumps_in, judge_entries, judge_rest, judge}
use Rattle.format.specs.JudgeFaults.{Before, Closed, Why, block, count, entry, left}
use Rattle.laws.proofs.Jumps.{asc_blocks}
use Rattle.laws.proofs.RoundTrip.{runs_le}
use Rattle.laws.proofs.Runs.{ids_runs, fine_runs}
use Rattle.laws.proofs.Section.{length_bytes_of_lem}
use Rattle.laws.proofs.Tests.{stopped}
use Rattle.judge.proofs.Standing.{entry_eight, length_blocks_in}
use Rattle.judge.proofs.Built.{Comes, comes, went_all}
use Rattle.judge.proofs.Entries.{missed, entries_all, entries_front, entries_end, entry_missed}
use Rattle.judge.proofs.Judged.{before, closed, long, entries_are, rest_of}

-- a test that stopped a chain, or what came after it
need_or : {A X : Type 0} (t : Bool) (k v : ℕ) (next : Outcome A) (why w : ℕ) → need t k v next ≡ refused why w
    → (t ≡ false → why ≡ k → w ≡ v → X) → (t ≡ true → next ≡ refused why w → X) → X
unfolding need
need_or true k v next why w h now later = later refl h
need_or false k v next why w h now later = now refl (cc) (cc)

module _ (o : Order) (p : ℕ) (ok : Power p) (s : List ℕ) (j why to : ℕ) where
  -- ---- a fault that was told is right

  why_left : (e : Ended) (c : Closed o p s e.start e.count e.next) (b : ℕ) → j ≡ length (jumps p c.before.ids)
      → (drop (e.start + 6) s ≡ bytes_of (entry_in o) (jumps p c.before.ids) ++ drop b s) × (b ≡ e.start + 6 + 8 * length (jumps p c.before.ids))
      → need (eqb b (length s)) left_over b (done e.count) ≡ refused why to → Why o p j s why to
  why_left e c b hj x h =
      let es : List Entry = jumps p c.before.ids in
      need_or (eqb b (length s)) left_over b (done e.count) why to h
      (λ q a w.
      let ne : b ≡ length s → ⊥ = eqb-false b (length s) q in
      let lt : b < length s =
      omega (
        arith,
        ne,
        x.1,
        ap length x.0,
        length-append (bytes_of (entry_in o) es) (drop b s),
        length_bytes_of_lem 8 (entry_in o) (entry_eight o) es,
        length-drop (e.start + 6) s,
        length-drop b s,
        long o p ok s e.start e.count e.next c,
      ) in
      left e.start e.count e.next c a hj (x.0 ∙ ap (λ (n : ℕ). bytes_of (entry_in o) es ++ drop n s) (sym w)) (omega (arith, x.1)) (omega arith))
      (λ q z. absurd (let y : ◌≡◌ {A = ℕ} 0 1 = cc in omega arith))

  why_rest : (e : Ended) → Closed o p s e.start e.count e.next → judge_rest o (not_two (jumps_in o p s)) j s e ≡ refused why to → Why o p j s why to
  unfolding judge_rest
  why_rest e c h =
      let es : List Entry = jumps p c.before.ids in
      let g : judge_rest o es j s e ≡ refused why to =
      ap (λ (l : List Entry). judge_rest o l j s e) (sym (entries_are o p ok s e.start e.count e.next c)) ∙ h in
      need_or (eqb j (length es)) jump_wrong (e.start + 6) _ why to g
      (λ q a w. count e.start e.count e.next c a w (eqb-false j (length es) q))
      (λ q x.
      let hj : j ≡ length es = eqb-true j (length es) q in
      stopped (judge_entries o es s (e.start + 6)) _ why to x
      (λ y. let m = missed o s es (e.start + 6) why to y in entry e.start e.count e.next c m.1 hj m.0)
      (λ b y z. why_left e c b hj (entries_all o s es (e.start + 6) b y) z))

  pub right : Below 256 s → judge o p j s ≡ refused why to → Why o p j s why to
  unfolding judge
  right u h =
      let whole : Outcome Ended = judge_from (suc (length s)) o p s 0 0 0 in
      stopped whole _ why to h
      (λ e.
      let c : Comes o p s 0 0 0 (refused why to) = comes o p ok s u (suc (length s)) 0 0 0 (omega arith) (refused why to) e in
      block c.0 c.1 (before o p ok s to c.0 c.1 c.2) c.3)
      (λ e d r. why_rest e (closed o p ok s e (comes o p ok s u (suc (length s)) 0 0 0 (omega arith) (done e) d)) r)

  -- ---- and a right one is told

  -- the judge comes to the place after sound blocks
  comes_to : (n next : ℕ) → Before o p s to n next
      → (f : ℕ) × (judge_from (suc (length s)) o p s 0 0 0 ≡ judge_from (suc f) o p s to n next)
  comes_to n next b =
      let gs : List Run = runs b.ids in
      let fine : AllFine gs = fine_runs b.ids b.ascending b.range in
      let all : length s ≡ total_bytes p gs + length (drop to s) =
      ap length b.bytes ∙ length-append (bytes_of (block_in o p) gs) (drop to s)
      ∙ ap (λ (i : ℕ). i + length (drop to s)) (length_blocks_in o p (omega (arith, ok.most)) gs) in
      let fuel : suc (length s) ≡ length gs + suc (length s - length gs) = omega (arith, all, runs_le p gs) in
      let place : 0 + total_bytes p gs ≡ to = omega (arith, b.place) in
      let ids : 0 + length (ids_of gs) ≡ n = zero-add (length (ids_of gs)) ∙ ap length (ids_runs b.ids) ∙ sym b.count in (
        length s - length gs,
        went_all o p ok s (suc (length s - length gs)) (suc (length s)) 0 0 0 gs (drop to s) (record { fine = fine; bytes = b.bytes })
            (asc_blocks 0 b.ids b.ascending) fuel
            ∙ rw (place, ids, sym b.last),
      )

  block_told : (n next : ℕ) → Before o p s to n next → first_failed (tests_at o p s to next) ≡ some why → judge o p j s ≡ refused why to
  unfolding judge and_then judge_from unless_fault
  block_told n next b h =
      let x = comes_to n next b in
      let e : judge_from (suc (length s)) o p s 0 0 0 ≡ refused why to = x.1 ∙ rw h in
      rw e

  pub told : Why o p j s why to → judge o p j s ≡ refused why to
  unfolding judge_rest and_then need
  told (block n next b h) = block_told n next b h
  told (count at n next c er et h) = rest_of o p ok s at n next c j ∙ rw (ne_eqb j (length (jumps p c.before.ids)) h, er, et)
  told (entry at n next c er hj m) =
      let es : List Entry = jumps p c.before.ids in
      let g : judge_entries o es s (at + 6) ≡ refused jump_wrong to =
      ap (λ (l : List Entry). judge_entries o l s (at + 6)) m.split
      ∙ entries_front o s m.front (m.entry ∷ m.back) (at + 6) (drop to s) m.bytes
      ∙ ap (judge_entries o (m.entry ∷ m.back) s) (sym m.place) ∙ entry_missed o s m.entry m.back to m.wrong in
      rest_of o p ok s at n next c j ∙ rw (eq-eqb j (length es) hj, g, er)
  told (left at n next c er hj hb hp lt) =
      let es : List Entry = jumps p c.before.ids in
      let place : at + 6 + 8 * length es ≡ to = omega (arith, hj) in
      let g : judge_entries o es s (at + 6) ≡ done to =
      ap (λ (l : List Entry). judge_entries o l s (at + 6)) (sym (append-nil es))
      ∙ entries_front o s es [] (at + 6) (drop to s) hb ∙ ap (judge_entries o [] s) place ∙ entries_end o s to in
      rest_of o p ok s at n next c j ∙ rw (eq-eqb j (length es) hj, g, ne_eqb to (length s) (λ z. omega arith), er)
