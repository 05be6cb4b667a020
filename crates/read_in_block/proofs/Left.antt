-- Where a block has an id from a place on, none is not what comes next: the pair, or a step that fails there. Assumes nothing.
use Rattle.format.specs.Kit.{◌≡◌, refl, ap, ◌∙◌, false, List, Option, none, some, ℕ, ◌+◌, ◌*◌, ◌/◌, ◌%◌, ◌^◌, ◌≤◌, ◌<◌, arith, ones_in, count_trailing_zeros, ℤ}
use Rattle.format.specs.Limits.{Power}
use Rattle.format.specs.Refusals.{done, and_then, given, BROKEN}
use Rattle.format.specs.Ids.{sparse, dense, all, kind_of}
use Rattle.format.specs.Opening.{Opened, id_part, value_of}
use Rattle.format.specs.Next.{candidate_at, next_steps}
use Rattle.format.specs.ReadFrom.{is_none}
use Rattle.laws.proofs.Cases.{below_or}
use Rattle.blocks.specs.declared.Block.{Block}
use Rattle.next_in_block.specs.First.{Below, entry_in, inner_in}
use Rattle.read_in_block.specs.Stretch.{InBlock, InLong, long_at}
use Rattle.read_in_block.proofs.Places.{pair_at, all_ordinal}
use Rattle.read_in_block.proofs.Entries.{sparse_pair}
use Rattle.read_in_block.proofs.Longs.{in_first, dense_pair, dense_failure}
use Rattle.read_in_block.proofs.BitRows.{ones_left, bit_left}

pair_left : (bytes : List ℕ) (c : Opened) (id x : ℕ) → is_none (pair_at bytes c id x) ≡ false
unfolding is_none and_then given
pair_left bytes c id x = go (value_of bytes c x)
  where
    go : (o : Option ℤ) → is_none (and_then (given o BROKEN 0) (λ v. done (candidate_at id x v))) ≡ false
    go (some v) = refl
    go none = refl

module _ (bytes : List ℕ) (c : Opened) (b : ℕ) (k : Block) (x : InBlock bytes c b k) (r : ℕ) where
  pub sparse_left : kind_of k.count ≡ sparse → (s : List ℕ) → id_part bytes c ≡ s → (j : ℕ) → Below s k.start k.count r j → j < k.count
      → entry_in s k.start j < 65536 → r ≤ entry_in s k.start j → is_none (next_steps bytes c (b * 65536 + r)) ≡ false
  sparse_left e s h j p l m n = ap is_none (sparse_pair bytes c b k x e s h r j p l refl m n refl refl).0 ∙ pair_left bytes c _ _

  pub all_left : kind_of k.count ≡ all → r < 65536 → is_none (next_steps bytes c (b * 65536 + r)) ≡ false
  all_left e l = ap is_none (all_ordinal bytes c b k x e r l refl refl).0 ∙ pair_left bytes c _ _

  -- a bit of the place's own long
  pub dense_left : kind_of k.count ≡ dense → (s : List ℕ) → id_part bytes c ≡ s → (p : ℕ) → p ≡ c.head.power → Power p → r < 65536
      → long_at p s k.start (r / 64) < 2 ^ 64 → 0 < ones_in 64 (long_at p s k.start (r / 64) / 2 ^ (r % 64))
      → is_none (next_steps bytes c (b * 65536 + r)) ≡ false
  unfolding is_none
  dense_left d s i p q h l m n =
      let t : ℕ = k.start in
      let g : ℕ = r / 64 in
      let rest : ℕ = long_at p s t g / 2 ^ (r % 64) in
      let inner : ℕ = inner_in p s t r in
      let y : InLong p s t g r rest inner = in_first p h s t r l m refl refl in
      let z : r + count_trailing_zeros 64 rest < 64 * g + 64 = bit_left p h s t g r rest inner y (omega (arith, n, ones_left p h s t g r rest inner y)) in
      below_or inner k.count
      (λ u. ap is_none (dense_pair bytes c b k x d s i p q h g r rest inner y _ refl z u refl).0 ∙ pair_left bytes c _ _)
      (λ u. ap is_none (dense_failure bytes c b k x d s i p q h g r rest inner y _ refl z u))
