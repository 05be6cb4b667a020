-- The pass over the blocks: a block's ids added to the tally, and the turns of the loop. Assumes nothing.
use Rattle.format.specs.Kit.{Bool, List, ◌%◌, ◌*◌, ◌++◌, ◌+◌, ◌-◌, ◌/◌, ◌<◌, ◌||◌, ◌∙◌, ◌∷◌, ◌≡◌, ◌≤◌, add-one, add-zero, ap, ap₂, arith, eq-eqb, length}
use Rattle.format.specs.Kit.{length-append, length-map, ne_eqb, or_assoc, or-false, refl, suc, sym, zero, zero-le, ℕ}
use Rattle.format.specs.Ids.{Run, count_below}
use Rattle.format.specs.IdsRead.{ids_of}
use Rattle.format.specs.Pairs.{Below}
use Rattle.format.specs.Refusals.{DAMAGED, Outcome, and_then, done, need, refused}
use Rattle.answers.specs.Replies.{refused_as}
use Rattle.format.specs.SetCalls.{block_from, blocks_from, set_end, set_run}
use Rattle.format.specs.Walk.{listed}
use Rattle.laws.proofs.Find.{count_all, count_append, count_length, count_none, count_same, listed_append, listed_not, listed_same}
use Rattle.laws.proofs.Places.{asc_length}
use Rattle.set_blocks.specs.Found.{head_in, places_of}
use Rattle.set_blocks.specs.Kinds.{kind_number}
use Rattle.set_blocks.proofs.Steps.{kind_le}
use Rattle.set_blocks.specs.declared.SetBlock.{SetBlock}
use Rattle.set_check.specs.Tally.{Added, Full, Sound, ids_in, onto, walked_from}
use Rattle.set_check.specs.declared.Tally.{Tally}
use Rattle.set_format.proofs.Data.{fits, held}
use Rattle.set_format.proofs.Whole.{Block, block_there}
use Rattle.answers.specs.declared.Refusal.{Refusal}

-- ---- the turns

module _ (s : List ℕ) (id : ℕ) where
  -- one block more
  more_ids : (t r : Tally) (p : SetBlock) (gs : List Run) → Added s p id t r → onto id t (set_run s (head_in p) ∷ gs) ≡ onto id r gs
  unfolding ids_of set_run
  more_ids t r p gs a =
      let xs : List ℕ = ids_in s p in
      let n : t.count + length (xs ++ ids_of gs) ≡ r.count + length (ids_of gs) =
      omega (arith, a.count_is, length-append xs (ids_of gs), length-map (places_of s p) (λ r. p.block * 65536 + r)) in
      let m : t.below + count_below id (xs ++ ids_of gs) ≡ r.below + count_below id (ids_of gs) =
      omega (arith, a.below_is, count_append id xs (ids_of gs)) in
      let b : t.there || listed id (xs ++ ids_of gs) ≡ r.there || listed id (ids_of gs) =
      ap (λ (q : Bool). t.there || q) (listed_append id xs (ids_of gs)) ∙ sym (or_assoc t.there (listed id xs) (listed id (ids_of gs)))
      ∙ ap (λ (q : Bool). q || listed id (ids_of gs)) (sym a.there_is) in
      rw (n, m, b)

  pub turn : (m next at : ℕ) (t r : Tally) (p : SetBlock) → done (head_in p) ≡ block_from next s at → Added s p id t r
      → walked_from s id (suc m) next at t ≡ walked_from s id m (suc p.block) (set_end (head_in p)) r
  unfolding walked_from blocks_from and_then
  turn m next at t r p e a = rw (sym e) (go (blocks_from m (suc p.block) s (set_end (head_in p))))
    where
      go : (o : Outcome (List Run))
          → and_then (and_then o (λ gs. done (set_run s (head_in p) ∷ gs))) (λ gs. done (onto id t gs)) ≡ and_then o (λ gs. done (onto id r gs))
      go (done gs) = ap {B = Outcome Tally} (λ (x : Tally). done x) (more_ids t r p gs a)
      go (refused why w) = refl

-- ---- a block's ids in the tally

module _ (s : List ℕ) (u : Below 256 s) (p : SetBlock) (ok : Sound s p) (full : Full s p) (id : ℕ) (t r : Tally) (le : t.below ≤ t.count) where
  inside : Below 65536 (places_of s p)
  inside = (held s u p.start (kind_number p.kind) p.long (kind_le p.kind) ok.long_is ok.data_is).inside

  pub added_low : p.block < id / 65536 → r.count ≡ t.count + p.count → r.below ≡ t.below + p.count → r.there ≡ t.there → Added s p id t r
  added_low h a b e =
      let n : count_below id (ids_in s p) ≡ length (places_of s p) = count_all (p.block * 65536) id (places_of s p) (omega arith) inside in
      record {
        count_is = omega (arith, full.count_is);
        below_is = omega (arith, full.count_is);
        there_is =
            e ∙ sym (ap (λ (q : Bool). t.there || q) (listed_not (p.block * 65536) id (places_of s p) inside (λ x y. omega arith)) ∙ or-false t.there);
        below_le = omega arith;
      }

  pub added_high : id / 65536 < p.block → r.count ≡ t.count + p.count → r.below ≡ t.below → r.there ≡ t.there → Added s p id t r
  added_high h a b e =
      let n : count_below id (ids_in s p) ≡ 0 = count_none (p.block * 65536) id (places_of s p) (omega arith) in
      record {
        count_is = omega (arith, full.count_is);
        below_is = omega arith;
        there_is =
            e ∙ sym (ap (λ (q : Bool). t.there || q) (listed_not (p.block * 65536) id (places_of s p) inside (λ x y. omega arith)) ∙ or-false t.there);
        below_le = omega arith;
      }

  pub added_same : p.block ≡ id / 65536 → (n : ℕ) (q : Bool) → n ≡ count_below (id % 65536) (places_of s p) → q ≡ listed (id % 65536) (places_of s p)
      → r.count ≡ t.count + p.count → r.below ≡ t.below + n → r.there ≡ t.there || q → Added s p id t r
  added_same h n q en eq a b e =
      let is : id ≡ p.block * 65536 + id % 65536 = omega arith in
      let m : count_below id (ids_in s p) ≡ count_below (id % 65536) (places_of s p) =
      ap (λ (x : ℕ). count_below x (ids_in s p)) is ∙ count_same (p.block * 65536) (id % 65536) (places_of s p) in
      let l : listed id (ids_in s p) ≡ listed (id % 65536) (places_of s p) =
      ap (λ (x : ℕ). listed x (ids_in s p)) is ∙ listed_same (p.block * 65536) (id % 65536) (places_of s p) in
      record {
        count_is = omega (arith, full.count_is);
        below_is = omega arith;
        there_is = e ∙ ap (λ (x : Bool). t.there || x) (eq ∙ sym l);
        below_le = omega (arith, count_length (id % 65536) (places_of s p), full.count_is);
      }

-- ---- a block that was read

pub record Read (s : List ℕ) (next at : ℕ) (b : SetBlock) : Type 0 where
  pub head_is_is : done (head_in b) ≡ block_from next s at
  pub sound : Sound s b
  pub full : Full s b
  pub rises : next ≤ b.block
  pub ends : set_end (head_in b) ≤ length s

pub read_block : (s : List ℕ) → Below 256 s → (next at : ℕ) (b : SetBlock) → done (head_in b) ≡ block_from next s at
    → b.count ≡ length (places_of s b) → Read s next at b
read_block s u next at b head c =
    let its : Block s u next at (head_in b) = block_there s u next at (head_in b) (sym head) in
    let rs = places_of s b in
    record {
      head_is_is = head;
      sound = record { long_is = its.long_is; data_is = its.data_ok };
      full =
          record {
            count_is = c;
            count_le = omega (arith, asc_length 0 65536 rs zero-le its.block_data_is.ascending its.block_data_is.inside);
            number_le = omega (arith, its.high);
          };
      rises = its.low;
      ends = fits b.start (kind_number b.kind) b.long s its.data_ok;
    }

-- ---- the loop's other turns

module _ (s : List ℕ) (id : ℕ) where
  pub halted : (m next at : ℕ) (t : Tally) (why : Refusal) → refused_as why ≡ block_from next s at → zero < m
      → refused_as why ≡ walked_from s id m next at t
  unfolding walked_from blocks_from and_then
  halted zero next at t why e l = absurd (omega arith)
  halted (suc m) next at t why e l = sym (rw (sym e) refl)

  pub left_over : (m next at : ℕ) (t : Tally) → m ≡ 0 → (at ≡ length s → ⊥) → refused DAMAGED 0 ≡ walked_from s id m next at t
  unfolding walked_from blocks_from need and_then
  left_over m next at t z n = rw (z, ne_eqb at (length s) n)

  pub ended : (m next at : ℕ) (t : Tally) → m ≡ 0 → at ≡ length s → done t ≡ walked_from s id m next at t
  unfolding walked_from blocks_from need and_then ids_of count_below listed
  ended m next at t z e = rw (z, eq-eqb at (length s) e, add-zero t.count, add-zero t.below, or-false)

  pub turned : (m n next at : ℕ) (t r : Tally) (p : SetBlock) → zero < m → n ≡ m - 1 → done (head_in p) ≡ block_from next s at → Added s p id t r
      → walked_from s id m next at t ≡ walked_from s id n (p.block + 1) (set_end (head_in p)) r
  turned zero n next at t r p l z e a = absurd (omega arith)
  turned (suc m) n next at t r p l z e a =
      let q : n ≡ m = omega arith in
      turn s id m next at t r p e a ∙ ap₂ (λ (x y : ℕ). walked_from s id x y (set_end (head_in p)) r) (sym q) (sym (add-one p.block))
