-- One pass over the entries of a sparse block, in whatever order they stand. Assumes nothing.
use Rattle.format.specs.Kit.{◌≡◌, refl, sym, ap, ◌∙◌, List, ℕ, ◌+◌, ◌-◌, ◌*◌, ◌≤◌, ◌<◌, arith, length}
use Rattle.format.specs.Ids.{sparse, kind_of}
use Rattle.format.specs.Opening.{Opened, id_part}
use Rattle.format.specs.Next.{next_steps}
use Rattle.laws.proofs.Cases.{below_or}
use Rattle.blocks.specs.declared.Block.{Block}
use Rattle.next_in_block.specs.First.{Below, entry_in}
use Rattle.next_in_block.proofs.Entries.{entry_first, entry_none}
use Rattle.next_in_block.proofs.OfKind.{of_sparse}
use Rattle.read_in_block.specs.Stretch.{InBlock}
use Rattle.read_in_block.proofs.Places.{pair_at, met_at, met_none}

-- the entry was taken, and places from above it on are left
pub raised : (s : List ℕ) (t c r j y : ℕ) → Below s t c r j → j < c → y ≡ entry_in s t j → r ≤ y → Below s t c (y + 1) (j + 1)
raised s t c r j y p l e h =
    record {
      most = omega arith;
      before = λ k m. below_or k j (λ n. omega (arith, p.before k n)) (λ n. let f : k ≡ j = omega arith in rw f (omega arith));
    }

module _ (bytes : List ℕ) (c : Opened) (b : ℕ) (k : Block) (x : InBlock bytes c b k) (e : kind_of k.count ≡ sparse) (s : List ℕ)
    (h : id_part bytes c ≡ s) where
  pub sparse_data : k.start + 2 * k.count ≤ length s
  sparse_data = omega (arith, (of_sparse c.head.power k.count s k.start 0 e).0, x.data_end, ap length h)

  module _ (r j : ℕ) (p : Below s k.start k.count r j) where
    -- the first entry from the place on
    pub sparse_pair : {y id o : ℕ} → j < k.count → y ≡ entry_in s k.start j → y < 65536 → r ≤ y → id ≡ b * 65536 + y → o ≡ j
        → (next_steps bytes c (b * 65536 + r) ≡ pair_at bytes c id (k.ordinal + o)) × (k.ordinal + o < c.head.count)
    sparse_pair l f m n g i =
        let w = entry_first s k.start k.count r j (record { passed = p; from = λ z. omega arith }) l (omega arith) in
        rw (g, i, f) (
          met_at bytes c b k x r (omega arith) _ j (rw h (sym ((of_sparse c.head.power k.count s k.start r e).1 (65536 - r)) ∙ w)),
          omega (arith, x.last),
        )

    -- no entry is left
    pub sparse_end : k.count ≤ j → r ≤ 65536 → next_steps bytes c (b * 65536 + 65536) ≡ next_steps bytes c (b * 65536 + r)
    sparse_end l m =
        below_or r 65536
        (λ n.
        let w = entry_none s k.start k.count r j (record { passed = p; from = λ z. absurd (omega arith) }) l in
        met_none bytes c b k x r n (rw h (sym ((of_sparse c.head.power k.count s k.start r e).1 (65536 - r)) ∙ w)))
        (λ n. let f : r ≡ 65536 = omega arith in rw f refl)
