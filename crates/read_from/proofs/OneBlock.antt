-- Steps 1 to 4 for a block, told of each of its places. Assumes nothing.
use Rattle.format.specs.Kit.{◌≡◌, refl, ◌∙◌, false, ◌&&◌, List, ℕ, ◌+◌, ◌≤◌, arith, leb, length}
use Rattle.format.specs.Refusals.{Outcome}
use Rattle.format.specs.Ids.{data_bytes}
use Rattle.format.specs.LookUp.{Look, scanned}
use Rattle.blocks.specs.declared.Block.{Block}
use Rattle.lookup.specs.declared.Ask.{Ask}
use Rattle.lookup.specs.declared.Entry.{Entry}
use Rattle.lookup.specs.declared.Step as St
use Rattle.lookup.specs.Steps.{Fair, Jumped, Stepped, at_block, Reached, Roomy}
use Rattle.lookup.proofs.Parts.{block_parts, no_room, room}
use Rattle.next.proofs.OneBlock.{ask_for, entered}
use Rattle.read_from.specs.Blocks.{MetAs}

module _ (s : List ℕ) (q : Ask) (b : ℕ) (e : Entry) (j : Jumped s q.entries q.jumps b e) where
  -- steps 2 and 3 fail, or the block is another one
  pub not_there : (st : St.Step) → ((k : Block) → st ≡ St.Step.At k → ⊥) → Stepped s q.entries q.jumps b e st → MetAs s q b st
  not_there (St.Step.At k) z g = absurd (z _ refl)
  not_there St.Step.Absent t g = λ bytes c x h y l. entered bytes c s q b e x h j y l ∙ g.0 _
  not_there St.Step.Broken t g = λ bytes c x h y l. entered bytes c s q b e x h j y l ∙ g _

  module _ (k : Block) (g : (next : Outcome Look) → at_block s q.entries q.jumps b e.start next ≡ next) (at : Reached s q.entries b e k) where
    -- step 4 fails
    pub no_room_there : (leb (k.start + data_bytes q.power k.count) q.entries && leb (k.ordinal + k.count) q.count) ≡ false
        → MetAs s q b St.Step.Broken
    no_room_there t bytes c x h y l =
        entered bytes c s q b e x h j y l ∙ g _ ∙ block_parts scanned bytes c s (ask_for q b y) e k at ∙ no_room scanned bytes c s (ask_for q b y) k t

    -- the block
    pub block_there : (m : Block) → Roomy q.entries q.power q.count k m → Fair (length s) q → b ≤ 32765 → MetAs s q b (St.Step.At m)
    block_there m t f n bytes c x h =
        record {
          steps_left = λ y l.
              entered bytes c s q b e x h j y l ∙ g _ ∙ block_parts scanned bytes c s (ask_for q b y) e k at ∙ room scanned bytes c s (ask_for q b y) k m t
              ∙ rw (h, x.power) refl;
          number = n;
          kind = rw t.same at.kind;
          data_end = rw (h, t.same, ← x.power) (omega (arith, t.data_end, f.entries));
          last = rw (t.same, ← x.count) t.last;
        }
