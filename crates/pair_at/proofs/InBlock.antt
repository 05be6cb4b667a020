-- The place with an index, in each kind of block. Assumes nothing.
use Rattle.std.specs.Prelude as Std
use Rattle.std.specs.Prelude.{Some, None}
use Rattle.format.specs.Kit.{◌≡◌, refl, sym, ap, ◌∙◌, List, some, ℕ, ◌+◌, ◌-◌, ◌*◌, ◌/◌, ◌^◌, ◌≤◌, ◌<◌, arith, eq-eqb, ne_eqb, le-leb}
use Rattle.format.specs.Kit.{lt-leb, zero-mul, pow_pos}
use Rattle.format.specs.Limits.{Power}
use Rattle.format.specs.Bytes.{low_at}
use Rattle.format.specs.Ids.{sparse, dense, all, kind_of, by_kind, rank_bytes}
use Rattle.format.specs.LookUp.{stride_rank}
use Rattle.laws.proofs.Cases.{equal_or}
use Rattle.laws.proofs.Dense.{stride_bits}
use Rattle.format.specs.PairAt.{bit_after, dense_with, place_with}
use Rattle.pair_at.specs.Held.{PlaceIs, stride_of, stride_places}

-- ---- dense

-- a stride has places
pub places_some : (p : ℕ) → 0 < stride_places p
places_some p = equal_or p 0 (λ e. rw (eq-eqb p 0 e) (omega arith)) (λ e. rw (ne_eqb p 0 e) (pow_pos p))

module _ (p : ℕ) (h : Power p) (s : List ℕ) (t i x : ℕ) (ex : x ≡ stride_of p s t i * 2 ^ p) (rank : ℕ) (er : rank ≡ stride_rank p s t x) where
  pub dense_low_lem : i < rank → PlaceIs None (dense_with p s t i)
  unfolding dense_with
  dense_low_lem l = rw (← ex, ← er, lt-leb rank i l) refl

  -- a stride starts with a long
  aligned : 64 * (x / 64) ≡ x
  aligned =
      equal_or p 0
      (λ e. let z : x ≡ 0 = ex ∙ rw (eq-eqb p 0 e) (zero-mul (2 ^ p)) in omega arith)
      (λ e. omega (arith, ex, stride_bits p (stride_of p s t i) (omega (arith, h.least e))))

  pub dense_rest : rank ≤ i → (m d : ℕ) (r : Std.Option ℕ) → m ≡ t + rank_bytes p → 64 * d ≡ stride_places p
      → PlaceIs r (bit_after s m (64 * (x / 64 + d - x / 64)) (64 * (x / 64)) (i - rank)) → PlaceIs r (dense_with p s t i)
  unfolding dense_with
  dense_rest l m d r em ed w =
      let long : 64 * (x / 64 + d - x / 64) ≡ stride_places p = omega (arith, ed) in
      let v = rw (long, aligned, em) at w in
      rw (← ex, ← er, le-leb rank i l) v

-- ---- each kind

module _ (p : ℕ) (s : List ℕ) (t c i : ℕ) where
  pub of_sparse : (r : ℕ) → kind_of c ≡ sparse → r ≡ low_at 2 s (t + 2 * i) → r < 65536 → PlaceIs (Some r) (place_with p s t c i)
  unfolding place_with by_kind
  of_sparse r e f h = (rw e (ap (λ (n : ℕ). some n) (sym f)), h)

  pub of_dense : (r : Std.Option ℕ) → kind_of c ≡ dense → PlaceIs r (dense_with p s t i) → PlaceIs r (place_with p s t c i)
  unfolding place_with by_kind
  of_dense r e w = rw e w

  pub of_all : (r : ℕ) → kind_of c ≡ all → r ≡ i → i < 65536 → PlaceIs (Some r) (place_with p s t c i)
  unfolding place_with by_kind
  of_all r e f h = (rw e (ap (λ (n : ℕ). some n) (sym f)), omega arith)
