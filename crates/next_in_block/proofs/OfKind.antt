-- The first place of a block, and a block's data, by the block's kind. Assumes nothing.
use Rattle.format.specs.Kit.{◌≡◌, ℕ, suc, List, ◌+◌, ◌-◌, ◌*◌, ◌<◌, arith}
use Rattle.format.specs.Ids.{sparse, dense, all, kind_of, by_kind, rank_bytes, data_bytes}
use Rattle.format.specs.LookUp.{scanned, dense_at, place_at}
use Rattle.next_in_block.specs.First.{meets, meets_by, first_in, scan_at}
use Rattle.next_in_block.proofs.Run.{same_first}

module _ (p c : ℕ) (s : List ℕ) (t r : ℕ) where
  pub of_sparse : kind_of c ≡ sparse → (data_bytes p c ≡ 2 * c) × ((k : ℕ) → first_in k (scan_at s t c) r ≡ first_in k (place_at scanned p s t c) r)
  unfolding data_bytes place_at by_kind
  of_sparse e = (rw e, λ k. same_first (scan_at s t c) (place_at scanned p s t c) (λ y. rw e) k r)

  pub of_dense : kind_of c ≡ dense
      → (data_bytes p c ≡ rank_bytes p + 8192) × ((k : ℕ) → first_in k (dense_at p s t c) r ≡ first_in k (place_at scanned p s t c) r)
  unfolding data_bytes place_at by_kind
  of_dense e = (rw e, λ k. same_first (dense_at p s t c) (place_at scanned p s t c) (λ y. rw e) k r)

  pub of_all : kind_of c ≡ all → r < 65536 → meets r r ≡ first_in (65536 - r) (place_at scanned p s t c) r
  unfolding first_in meets_by place_at by_kind
  of_all e h =
      let k : 65536 - r ≡ suc (65535 - r) = omega arith in
      rw (k, e)
