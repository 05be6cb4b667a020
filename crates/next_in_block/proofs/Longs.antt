-- The turns of a loop over the longs of a dense block, and what its place stands for. Assumes nothing.
use Rattle.format.specs.Kit.{◌≡◌, ◌∙◌, List, ℕ, ◌+◌, ◌-◌, ◌*◌, ◌/◌, ◌%◌, ◌^◌, ◌≤◌, ◌<◌, arith}
use Rattle.format.specs.Bytes.{low_at}
use Rattle.format.specs.Ids.{rank_bytes}
use Rattle.format.specs.LookUp.{nowhere, dense_at}
use Rattle.laws.proofs.Cases.{below_or}
use Rattle.in_block.proofs.Bitmap.{dense_clear, dense_set, dense_broken}
use Rattle.next_in_block.specs.First.{meets, meets_none, fails, meets_by, first_in, bit_in, inner_in, FirstOne, FirstBit}
use Rattle.next_in_block.proofs.Run.{first_is, none_is}

-- no bit is set from r on up to place x
pub record Clear (s : List ℕ) (m r x : ℕ) : Type 0 where
  pub from : r ≤ x
  pub clear : (y : ℕ) → r ≤ y → y < x → bit_in s m y ≡ 0

module _ (s : List ℕ) (m k : ℕ) where
  -- a bit of long k
  bit_of_long : (j : ℕ) → j < 64 → bit_in s m (64 * k + j) ≡ low_at 8 s (m + 8 * k) / 2 ^ j % 2
  bit_of_long j h =
      let d : (64 * k + j) / 64 ≡ k = omega arith in
      let e : (64 * k + j) % 64 ≡ j = omega arith in
      rw (d, e)

  clear_in : (b j : ℕ) → FirstBit (low_at 8 s (m + 8 * k)) b j → (y : ℕ) → 64 * k + b ≤ y → y < 64 * k + j → y < 64 * k + 64 → bit_in s m y ≡ 0
  clear_in b j f y l h n =
      let e : 64 * k + (y - 64 * k) ≡ y = omega arith in
      let z = bit_of_long (y - 64 * k) (omega arith) in
      (rw e at z) ∙ f.clear (y - 64 * k) (omega arith) (omega arith)

  module _ (r b j : ℕ) (c : Clear s m r (64 * k + b)) (f : FirstBit (low_at 8 s (m + 8 * k)) b j) (h : b < 64) where
    -- the first set bit
    pub long_hit : k < 1024 → j < 64 → FirstOne s m r (64 * k + j)
    long_hit l n =
        record {
          from = omega (arith, c.from, f.from);
          most = omega arith;
          clear = λ y a z. below_or y (64 * k + b) (λ x. c.clear y a x) (λ x. clear_in b j f y x z (omega arith));
          is_set = λ x. bit_of_long j n ∙ f.is_set n;
        }

-- ---- the first place of a dense block

module _ (p : ℕ) (s : List ℕ) (t c r x : ℕ) (f : FirstOne s (t + rank_bytes p) r x) where
  dense_passed : (y : ℕ) → r ≤ y → y < x → dense_at p s t c y ≡ nowhere 1
  dense_passed y a l = dense_clear p s t c y (f.clear y a l)

  pub dense_none : x ≡ 65536 → r < 65536 → first_in (65536 - r) (dense_at p s t c) r ≡ meets_none
  dense_none e h = none_is (dense_at p s t c) 1 (65536 - r) r (λ z a l. dense_passed z a (omega arith))

  module _ (h : x < 65536) where
    not_clear : bit_in s (t + rank_bytes p) x ≡ 0 → ⊥
    not_clear z = omega (arith, f.is_set h)

    -- a place whose bit is set is there, or the step fails
    pub dense_first : inner_in p s t x < c → first_in (65536 - r) (dense_at p s t c) r ≡ meets x (inner_in p s t x)
    unfolding meets_by
    dense_first l =
        first_is (dense_at p s t c) 1 (65536 - r) r x f.from (omega (arith, f.from)) dense_passed ∙ rw (dense_set p s t c x not_clear l)

    pub dense_fails : c ≤ inner_in p s t x → first_in (65536 - r) (dense_at p s t c) r ≡ fails
    unfolding meets_by
    dense_fails l =
        first_is (dense_at p s t c) 1 (65536 - r) r x f.from (omega (arith, f.from)) dense_passed ∙ rw (dense_broken p s t c x not_clear l)
