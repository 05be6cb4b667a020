-- Blocks that are passed over at once. Assumes nothing.
use Rattle.format.specs.Kit.{◌≡◌, sym, ap, ◌∙◌, List, ℕ, ◌+◌, ◌-◌, ◌*◌, ◌/◌, ◌%◌, ◌≤◌, ◌<◌, min, arith}
use Rattle.format.specs.Limits.{max_id}
use Rattle.format.specs.Refusals.{Outcome, done}
use Rattle.format.specs.Bytes.{low_at}
use Rattle.format.specs.LookUp.{Look, absent, entry_at}
use Rattle.format.specs.Next.{no_candidate, in_turn}
use Rattle.laws.proofs.Cases.{equal_or}
use Rattle.laws.proofs.InTurn.{apart, all_absent}
use Rattle.lookup.specs.declared.Ask.{Ask}
use Rattle.lookup.specs.declared.Entry.{Entry}
use Rattle.lookup.specs.Steps.{Jumped, at_block}
use Rattle.lookup.proofs.Tested.{entry_none, entry_some, block_above, block_below}
use Rattle.next.specs.Blocks.{PassedTo}
use Rattle.next.proofs.OneBlock.{entered}
use Rattle.next.proofs.Turns.{Left}

-- the last entry serves all blocks from it on, and none serves all
same_entry : (s : List ℕ) (a j b d : ℕ) → j ≤ b + 1 → b ≤ d → entry_at s a j b ≡ entry_at s a j d
same_entry s a j b d h l =
    equal_or j 0
    (λ e. entry_none s a j b e ∙ sym (entry_none s a j d e))
    (λ e. let f : min b (j - 1) ≡ min d (j - 1) = omega arith in
    entry_some s a j b e ∙ rw f (sym (entry_some s a j d e)))

same_jumped : (s : List ℕ) (a j b d : ℕ) (e : Entry) → j ≤ b + 1 → b ≤ d → Jumped s a j b e → Jumped s a j d e
same_jumped s a j b d e h l x =
    let f = same_entry s a j b d h l in
    record { ordinal = x.ordinal ∙ ap (λ z. z.0) f; start = x.start ∙ ap (λ z. z.1) f; few = x.few; near = x.near }

module _ (s : List ℕ) (q : Ask) (b : ℕ) (e : Entry) (shared : q.jumps ≤ b + 1) (j : Jumped s q.entries q.jumps b e) where
  -- each block up to x is another one than the entry's
  others : (x : ℕ) → b ≤ x → x ≤ 32766
      → ((d : ℕ) → b ≤ d → d < x → (next : Outcome Look) → at_block s q.entries q.jumps d e.start next ≡ done (absent 0)) → PassedTo s q b x
  others x l m h =
      record {
        from = l;
        most = m;
        none = λ bytes c k p y u v.
            let d : b ≤ y / 65536 = omega arith in
            let f : y / 65536 * 65536 + y % 65536 ≡ y = omega arith in
            let t =
            entered bytes c s q (y / 65536) e k p (same_jumped s q.entries q.jumps b (y / 65536) e shared d j) (y % 65536) (omega arith)
            ∙ h (y / 65536) d (omega arith) _ in
            rw f at t;
      }

  -- the entry's block stands above
  pub passed_above : e.start + 4 ≤ q.entries → b < low_at 2 s e.start → b ≤ 32766 → (x : ℕ) → x ≡ min (low_at 2 s e.start) 32766 → PassedTo s q b x
  passed_above h l m x z = others x (omega arith) (omega arith) (λ d u v next. block_above s q.entries q.jumps d e.start h (omega arith) next)

  -- it stands below, and there are no entries
  pub passed_below : e.start + 4 ≤ q.entries → low_at 2 s e.start < b → q.jumps ≡ 0 → b ≤ 32766 → PassedTo s q b 32766
  passed_below h l z m = others 32766 m (omega arith) (λ d u v next. block_below s q.entries q.jumps d e.start h (omega arith) z next)

-- the ids that are left from there
pub left_passed : (s : List ℕ) (q : Ask) (b x : ℕ) → Left s q b 0 → PassedTo s q b x → Left s q x 0
left_passed s q b x left p bytes c k h =
    let l = p.from in
    let m = p.most in
    let e : max_id + 1 - (b * 65536 + 0) ≡ (x - b) * 65536 + (max_id + 1 - (x * 65536 + 0)) = omega arith in
    let f : b * 65536 + 0 + (x - b) * 65536 ≡ x * 65536 + 0 = omega arith in
    let above = in_turn (max_id + 1 - (x * 65536 + 0)) bytes c (x * 65536 + 0) (done no_candidate) in
    let a = rw f at (apart bytes c ((x - b) * 65536) (max_id + 1 - (x * 65536 + 0)) (b * 65536 + 0) (done no_candidate)) in
    left bytes c k h ∙ rw e a
    ∙ all_absent bytes c (λ y. 0) ((x - b) * 65536) (b * 65536 + 0) above (λ y u v. p.none bytes c k h y (omega arith) (omega arith))
