-- The turns of a loop over the blocks. Assumes nothing.
use Rattle.std.specs.Prelude.{Ok, Err, Some, None}
use Rattle.format.specs.Kit.{◌≡◌, refl, sym, ◌∙◌, List, ℕ, ◌+◌, ◌-◌, ◌*◌, ◌≤◌, ◌<◌, arith}
use Rattle.format.specs.Limits.{max_id}
use Rattle.format.specs.Refusals.{done}
use Rattle.format.specs.Opening.{Opened, id_part}
use Rattle.format.specs.Next.{no_candidate, in_turn, next_steps}
use Rattle.laws.proofs.InTurn.{apart}
use Rattle.answers.specs.declared.Refusal.{Refusal}
use Rattle.lookup.specs.declared.Ask.{Ask}
use Rattle.next.specs.Blocks.{AskedOf, BlockAs, WalkedAs}
use Rattle.next.specs.declared.Met.{Met}

-- the ids from place r of block b on are left
abbrev pub Left : List ℕ → Ask → ℕ → ℕ → Type 0
Left s q b r =
    (bytes : List ℕ) (c : Opened) → AskedOf c q → id_part bytes c ≡ s
    → next_steps bytes c (q.block * 65536 + q.place) ≡ in_turn (max_id + 1 - (b * 65536 + r)) bytes c (b * 65536 + r) (done no_candidate)

module _ (s : List ℕ) (q : Ask) where
  pub left_begin : Left s q q.block q.place
  unfolding next_steps
  left_begin bytes c x h = refl

  module _ (b r : ℕ) (left : Left s q b r) (k : b < 32766) (l : r < 65536) where
    -- this block, and then the ones above
    block_apart : (bytes : List ℕ) (c : Opened) → AskedOf c q → id_part bytes c ≡ s
        → next_steps bytes c (q.block * 65536 + q.place)
        ≡ in_turn (65536 - r) bytes c (b * 65536 + r) (in_turn (max_id + 1 - ((b + 1) * 65536 + 0)) bytes c ((b + 1) * 65536 + 0) (done no_candidate))
    block_apart bytes c x h =
        let e : max_id + 1 - (b * 65536 + r) ≡ (65536 - r) + (max_id + 1 - ((b + 1) * 65536 + 0)) = omega arith in
        let f : b * 65536 + r + (65536 - r) ≡ (b + 1) * 65536 + 0 = omega arith in
        let a = apart bytes c (65536 - r) (max_id + 1 - ((b + 1) * 65536 + 0)) (b * 65536 + r) (done no_candidate) in
        left bytes c x h ∙ rw e (rw f at a)

    pub left_on : BlockAs s q b r (Ok None) → Left s q (b + 1) 0
    left_on n bytes c x h = block_apart bytes c x h ∙ sym (n.left bytes c x h _)

    -- an id and a failed step do not ask what is above
    pub left_met : (m : Met) → BlockAs s q b r (Ok (Some m)) → WalkedAs s q (Ok (Some m))
    left_met m n = record { left = λ bytes c x h. n.left bytes c x h _ ∙ sym (block_apart bytes c x h); listed = n.listed }

    pub left_refused : (why : Refusal) → BlockAs s q b r (Err why) → WalkedAs s q (Err why)
    left_refused why n = record { left = λ bytes c x h. n.left bytes c x h _ ∙ sym (block_apart bytes c x h); listed = n.listed }

  pub left_none : (b r : ℕ) → Left s q b r → 32766 ≤ b → WalkedAs s q (Ok None)
  unfolding in_turn
  left_none b r left k =
      record {
        left = λ bytes c x h. let e : max_id + 1 - (b * 65536 + r) ≡ 0 = omega arith in sym (rw e at (left bytes c x h));
        listed = tt;
      }
