-- The next candidate from a place of a block on, and the pair that it gives. Assumes nothing.
use Rattle.format.specs.Kit.{◌≡◌, refl, sym, ap, ◌∙◌, List, ℕ, suc, ◌+◌, ◌-◌, ◌*◌, ◌≤◌, ◌<◌, arith}
use Rattle.format.specs.Limits.{max_id}
use Rattle.format.specs.Refusals.{Outcome, done, refused, and_then, given, BROKEN}
use Rattle.format.specs.Ids.{all, kind_of}
use Rattle.format.specs.Opening.{Opened, id_part, value_of}
use Rattle.format.specs.LookUp.{nowhere, scanned, place_at, answer}
use Rattle.format.specs.Next.{Candidate, candidate_at, no_candidate, next_steps}
use Rattle.laws.proofs.InTurn.{apart, all_absent}
use Rattle.blocks.specs.declared.Block.{Block}
use Rattle.next_in_block.specs.First.{Met, meets, meets_none, fails, first_in}
use Rattle.next_in_block.proofs.OfKind.{of_all}
use Rattle.in_block.proofs.ByKind.{all_count}
use Rattle.next.proofs.OneBlock.{placed, in_places}
use Rattle.read_in_block.specs.Stretch.{InBlock}

-- step 7 for an id of this ordinal
abbrev pub pair_at : List ℕ → Opened → ℕ → ℕ → Outcome Candidate
pair_at bytes c id x = and_then (given (value_of bytes c x) BROKEN 0) (λ v. done (candidate_at id x v))

module _ (bytes : List ℕ) (c : Opened) (b : ℕ) (k : Block) (x : InBlock bytes c b k) (r : ℕ) (l : r < 65536) where
  abbrev first : Met
  first = first_in (65536 - r) (place_at scanned c.head.power (id_part bytes c) k.start k.count) r

  -- this block, and then the ones above
  block_next : next_steps bytes c (b * 65536 + r) ≡ placed bytes c b k.ordinal first (next_steps bytes c (b * 65536 + 65536))
  unfolding next_steps
  block_next =
      let n = x.number in
      let e : suc max_id - (b * 65536 + r) ≡ (65536 - r) + (suc max_id - (b * 65536 + 65536)) = omega arith in
      let f : b * 65536 + r + (65536 - r) ≡ b * 65536 + 65536 = omega arith in
      let a = apart bytes c (65536 - r) (suc max_id - (b * 65536 + 65536)) (b * 65536 + r) (done no_candidate) in
      rw e (rw f at a)
      ∙ in_places bytes c b k.ordinal (place_at scanned c.head.power (id_part bytes c) k.start k.count) x.steps_left (65536 - r) r (omega arith) _

  pub met_at : (y i : ℕ) → first ≡ meets y i → next_steps bytes c (b * 65536 + r) ≡ pair_at bytes c (b * 65536 + y) (k.ordinal + i)
  met_at y i e = block_next ∙ rw e refl

  pub met_none : first ≡ meets_none → next_steps bytes c (b * 65536 + 65536) ≡ next_steps bytes c (b * 65536 + r)
  met_none e = sym (block_next ∙ rw e refl)

  pub met_failure : first ≡ fails → next_steps bytes c (b * 65536 + r) ≡ refused BROKEN 0
  met_failure e = block_next ∙ rw e refl

-- places that are absent are passed over
module _ (bytes : List ℕ) (c : Opened) (b : ℕ) (k : Block) (x : InBlock bytes c b k) where
  pub passed_places : (r r' w : ℕ) → r ≤ r' → r' ≤ 65536
      → ((y : ℕ) → r ≤ y → y < r' → place_at scanned c.head.power (id_part bytes c) k.start k.count y ≡ nowhere w)
      → next_steps bytes c (b * 65536 + r') ≡ next_steps bytes c (b * 65536 + r)
  unfolding next_steps answer
  passed_places r r' w l m h =
      let n = x.number in
      let e : suc max_id - (b * 65536 + r) ≡ (r' - r) + (suc max_id - (b * 65536 + r')) = omega arith in
      let f : b * 65536 + r + (r' - r) ≡ b * 65536 + r' = omega arith in
      let a = apart bytes c (r' - r) (suc max_id - (b * 65536 + r')) (b * 65536 + r) (done no_candidate) in
      sym (rw e (rw f at a)
      ∙ all_absent bytes c (λ y. w) (r' - r) (b * 65536 + r) _
      (λ y u v.
      let g : b * 65536 + (y - b * 65536) ≡ y = omega arith in
      let t = x.steps_left (y - b * 65536) (omega arith) ∙ ap (answer bytes c k.ordinal) (h (y - b * 65536) (omega arith) (omega arith)) in
      rw g at t))

-- ---- a block of all places

module _ (bytes : List ℕ) (c : Opened) (b : ℕ) (k : Block) (x : InBlock bytes c b k) (e : kind_of k.count ≡ all) (r : ℕ) (l : r < 65536) where
  pub all_ordinal : {id o : ℕ} → id ≡ b * 65536 + r → o ≡ r
      → (next_steps bytes c (b * 65536 + r) ≡ pair_at bytes c id (k.ordinal + o)) × (k.ordinal + o < c.head.count)
  all_ordinal f g =
      rw (f, g) (
        met_at bytes c b k x r l r r (sym (of_all c.head.power k.count (id_part bytes c) k.start r e l)),
        omega (arith, all_count k.count e, x.last),
      )
