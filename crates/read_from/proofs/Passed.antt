-- The next candidate above a block, above blocks that are passed over, and above all ids. Assumes nothing.
use Rattle.format.specs.Kit.{◌≡◌, refl, sym, ◌∙◌, List, ℕ, suc, ◌+◌, ◌-◌, ◌*◌, ◌≤◌, ◌<◌, arith}
use Rattle.format.specs.Limits.{max_id}
use Rattle.format.specs.Refusals.{done, refused, BROKEN}
use Rattle.format.specs.Opening.{Opened, id_part}
use Rattle.format.specs.LookUp.{absent, scanned, steps}
use Rattle.format.specs.Next.{no_candidate, in_turn, next_steps}
use Rattle.laws.proofs.InTurn.{apart, all_absent, refused_first}
use Rattle.lookup.specs.declared.Ask.{Ask}
use Rattle.next.specs.Blocks.{AskedOf, PassedTo}

module _ (bytes : List ℕ) (c : Opened) where
  pub above_all : (t : ℕ) → suc max_id ≤ t → next_steps bytes c t ≡ done no_candidate
  unfolding next_steps in_turn
  above_all t h = let e : suc max_id - t ≡ 0 = omega arith in rw e refl

  -- ids that are absent
  absent_ids_lem : (t t' : ℕ) → t ≤ t' → t' ≤ suc max_id → ((y : ℕ) → t ≤ y → y < t' → steps scanned bytes c y ≡ done (absent 0))
      → next_steps bytes c t' ≡ next_steps bytes c t
  unfolding next_steps
  absent_ids_lem t t' l m h =
      let e : suc max_id - t ≡ (t' - t) + (suc max_id - t') = omega arith in
      let f : t + (t' - t) ≡ t' = omega arith in
      let a = apart bytes c (t' - t) (suc max_id - t') t (done no_candidate) in
      sym (rw e (rw f at a) ∙ all_absent bytes c (λ y. 0) (t' - t) t _ (λ y u v. h y u (omega arith)))

  module _ (b r : ℕ) (n : b ≤ 32765) (l : r < 65536) where
    pub block_absent : ((y : ℕ) → y < 65536 → steps scanned bytes c (b * 65536 + y) ≡ done (absent 0))
        → next_steps bytes c (b * 65536 + 65536) ≡ next_steps bytes c (b * 65536 + r)
    block_absent h =
        absent_ids_lem (b * 65536 + r) (b * 65536 + 65536) (omega arith) (omega arith)
        (λ y u v. let f : b * 65536 + (y - b * 65536) ≡ y = omega arith in let t = h (y - b * 65536) (omega arith) in rw f at t)

    pub block_broken : ((y : ℕ) → y < 65536 → steps scanned bytes c (b * 65536 + y) ≡ refused BROKEN 0)
        → next_steps bytes c (b * 65536 + r) ≡ refused BROKEN 0
    unfolding next_steps
    block_broken h = refused_first bytes c (suc max_id - (b * 65536 + r)) (b * 65536 + r) (done no_candidate) (omega arith) BROKEN 0 (h r l)

  pub blocks_passed : (s : List ℕ) (q : Ask) (b x : ℕ) → AskedOf c q → id_part bytes c ≡ s → PassedTo s q (b + 1) x
      → next_steps bytes c (x * 65536 + 0) ≡ next_steps bytes c (b * 65536 + 65536)
  blocks_passed s q b x a h p =
      let f = p.from in
      let m = p.most in
      absent_ids_lem (b * 65536 + 65536) (x * 65536 + 0) (omega arith) (omega arith) (λ y u v. p.none bytes c a h y (omega arith) (omega arith))
