-- One entry of a sparse block by itself: its pair, or a step that fails. Assumes nothing.
use Rattle.format.specs.Kit.{◌≡◌, refl, ◌∙◌, List, none, some, ℕ, suc, ◌+◌, ◌*◌, ◌≤◌, ◌<◌, arith, ℤ, set}
use Rattle.format.specs.Refusals.{refused, and_then, given, BROKEN}
use Rattle.format.specs.Ids.{sparse, kind_of}
use Rattle.format.specs.Opening.{Opened, id_part, value_of}
use Rattle.format.specs.Next.{next_steps}
use Rattle.blocks.specs.declared.Block.{Block}
use Rattle.next_in_block.specs.First.{Below, entry_in}
use Rattle.read_in_block.specs.Parts.{Reads}
use Rattle.read_in_block.specs.Stretch.{InBlock}
use Rattle.read_in_block.proofs.Parts.{takes}
use Rattle.read_in_block.proofs.Entries.{sparse_pair}

module _ (bytes : List ℕ) (c : Opened) (b : ℕ) (k : Block) (q : InBlock bytes c b k) (e : kind_of k.count ≡ sparse) (s : List ℕ)
    (h : id_part bytes c ≡ s) (r j : ℕ) (p : Below s k.start k.count r j) (y x : ℕ) (l : j < k.count) (f : y ≡ entry_in s k.start j)
    (m : y < 65536) (n : r ≤ y) (o : x ≡ k.ordinal + j) where
  pub entry_taken : (room i : ℕ) (ids : List ℕ) (vs : List ℤ) (id : ℕ) (v : ℤ) (ids' : List ℕ) (vs' : List ℤ) → value_of bytes c x ≡ some v → i < room
      → id ≡ b * 65536 + y → ids' ≡ set ids i id → vs' ≡ set vs i v
      → Reads bytes c room i (b * 65536 + r) ids vs (i + 1) (b * 65536 + (y + 1)) ids' vs'
  unfolding and_then given
  entry_taken room i ids vs id v ids' vs' w u g a d =
      let next : suc id ≡ b * 65536 + (y + 1) = omega (arith, g) in
      let pair = (sparse_pair bytes c b k q e s h r j p l f m n g refl).0 in
      let value : value_of bytes c (k.ordinal + j) ≡ some v = rw o at w in
      let t = takes bytes c room i (b * 65536 + r) ids vs id (k.ordinal + j) v ids' vs' u (pair ∙ rw value refl) a d in
      rw next at t

  pub entry_fails : value_of bytes c x ≡ none → next_steps bytes c (b * 65536 + r) ≡ refused BROKEN 0
  unfolding and_then given
  entry_fails w =
      let pair = (sparse_pair bytes c b k q e s h r j p l f m n refl refl).0 in
      let value : value_of bytes c (k.ordinal + j) ≡ none = rw o at w in
      pair ∙ rw value refl
