-- Marks: what is left of the steps, the mark of an index in a sparse block, and a block for all its ids. Assumes nothing.
use Rattle.format.specs.Kit.{◌≡◌, refl, sym, ap, ap₂, ◌∙◌, List, Option, none, some, ℕ, ◌+◌, ◌/◌, ◌%◌, ◌≤◌, ◌<◌, arith, length, drop}
use Rattle.format.specs.IdsRead.{shorts}
use Rattle.format.specs.Opening.{Opened, id_part}
use Rattle.format.specs.LookUp.{Place, inside, nowhere, broken, halved, in_sparse, place_at, answer, steps}
use Rattle.blocks.specs.declared.Block.{Block}
use Rattle.in_block.specs.Place.{index_or}
use Rattle.in_block.proofs.Entries.{index_below}
use Rattle.lookup.specs.Steps.{Asked, with_place, Fair, BlockFor}
use Rattle.lookup.specs.declared.Ask.{Ask}
use Rattle.lookup.specs.declared.Step as St
use Rattle.page.specs.Marks.{mark_of, marked, Listed, InBlock, BlockIs}
use Rattle.page.specs.declared.marks.Mark as Ma

marked_place : (bytes : List ℕ) (c : Opened) (o : ℕ) (x : Place) → marked bytes c (mark_of o x) ≡ answer bytes c o x
unfolding answer
marked_place bytes c o (inside i w) = refl
marked_place bytes c o (nowhere w) = refl
marked_place bytes c o broken = refl

listed_in : (a b : ℕ) → a ≤ b → (m : Ma.Mark) → Listed a m → Listed b m
listed_in a b h (Ma.Mark.At x w) l = omega arith
listed_in a b h (Ma.Mark.Absent w) l = tt
listed_in a b h Ma.Mark.Broken l = tt

module _ (s : List ℕ) (at c r o i : ℕ) (small : c < 65536) (e : i ≡ index_or (halved r (shorts c (drop at s)))) where
  abbrev index : Option ℕ
  index = halved r (shorts c (drop at s))

  pub sparse_at : i < 65536 → (Ma.Mark.At (o + i) 0 ≡ mark_of o (in_sparse index)) × (o + i < o + c)
  unfolding in_sparse
  sparse_at l = go index refl
    where
      go : (q : Option ℕ) → index ≡ q → (Ma.Mark.At (o + i) 0 ≡ mark_of o (in_sparse index)) × (o + i < o + c)
      go (some j) h =
          let f : i ≡ j = e ∙ rw h refl in
          let u : j < c = rw h at (index_below s at c r) in
          (rw (h, f) refl, omega arith)
      go none h = let f : i ≡ 65536 = e ∙ rw h refl in absurd (omega arith)

  pub sparse_not : 65536 ≤ i → Ma.Mark.Absent 0 ≡ mark_of o (in_sparse index)
  unfolding in_sparse
  sparse_not l = go index refl
    where
      go : (q : Option ℕ) → index ≡ q → Ma.Mark.Absent 0 ≡ mark_of o (in_sparse index)
      go (some j) h =
          let f : i ≡ j = e ∙ rw h refl in
          let u : j < c = rw h at (index_below s at c r) in
          absurd (omega arith)
      go none h = rw h refl

-- ---- a block for all its ids

module _ (bytes : List ℕ) (c : Opened) (id : ℕ) (s : List ℕ) (q : Ask) (h : id_part bytes c ≡ s) (x : Asked c id q) (f : Fair (length s) q) where
  asked : (i : ℕ) → i / 65536 ≡ id / 65536 → Asked c i (with_place q (i % 65536))
  asked i e =
      record { entries = x.entries; jumps = x.jumps; power = x.power; count = x.count; block = x.block ∙ sym e; place = refl }

  pub block_is : (st : St.Step) → ((r : ℕ) → BlockFor s (with_place q r) st) → BlockIs bytes c (id / 65536) st
  block_is (St.Step.At k) g =
      record {
        steps_left = λ i l e.
            (g (i % 65536)).steps_left bytes c i (asked i e) h
            ∙ ap₂ (λ (p : ℕ) (t : List ℕ). answer bytes c k.ordinal (place_at halved p t k.start k.count (i % 65536))) x.power (sym h);
        kind = (g 0).kind;
        some = (g 0).some;
        data_end = rw (h, ← x.power) (omega (arith, (g 0).data_end, f.entries));
        last = rw (← x.count) (g 0).last;
      }
  block_is St.Step.Absent g = λ i l e. (g (i % 65536) bytes c i (asked i e) h).0
  block_is St.Step.Broken g = λ i l e. g (i % 65536) bytes c i (asked i e) h

-- an id of a block, by the mark of its place there
module _ (bytes : List ℕ) (c : Opened) (id : ℕ) (l : id < 4294967296) (k : Block) (b : InBlock bytes c (id / 65536) k) where
  pub in_block : (p r : ℕ) (s : List ℕ) (m : Ma.Mark) → p ≡ c.head.power → r ≡ id % 65536 → id_part bytes c ≡ s
      → (m ≡ mark_of k.ordinal (place_at halved p s k.start k.count r)) × (Listed (k.ordinal + k.count) m)
      → (marked bytes c m ≡ steps halved bytes c id) × (Listed c.head.count m)
  in_block p r s m e f h g =
      let y : place_at halved p s k.start k.count r ≡ place_at halved c.head.power (id_part bytes c) k.start k.count (id % 65536) =
      rw (e, f, h) refl in (
        ap (marked bytes c) g.0 ∙ marked_place bytes c k.ordinal _ ∙ ap (answer bytes c k.ordinal) y ∙ sym (b.steps_left id l refl),
        listed_in _ _ b.last m g.1,
      )
