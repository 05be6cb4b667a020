-- The ids before a long of a dense block, by ranks and by the long before. Assumes nothing.
use Rattle.format.specs.Kit.{◌≡◌, refl, sym, ap, ap₂, ◌∙◌, List, ℕ, ◌+◌, ◌-◌, ◌*◌, ◌/◌, ◌%◌, ◌^◌, ◌≤◌, ◌<◌, arith, ones_in, shr-shr, div-add-mod', mod-lt}
use Rattle.format.specs.Kit.{pow_pos, digits_div, add-zero}
use Rattle.format.specs.Limits.{Power}
use Rattle.format.specs.Bytes.{low_at}
use Rattle.format.specs.Ids.{rank_bytes}
use Rattle.format.specs.LookUp.{ones_from, stride_long, stride_rank}
use Rattle.laws.proofs.Cases.{equal_or}
use Rattle.laws.proofs.Ones.{ones_more, ones_none}
use Rattle.in_block.proofs.Strides.{long_none, long_some, rank_none, rank_some, long_in}
use Rattle.next_in_block.specs.First.{inner_in}
use Rattle.read_in_block.specs.Stretch.{before_long, long_at}

-- a place is in the stride of its long
stride_of_lem : (p x : ℕ) → Power p → (p ≡ 0 → ⊥) → x / 2 ^ p ≡ x / 64 / 2 ^ (p - 6)
stride_of_lem p x h e =
    let six : 6 + (p - 6) ≡ p = omega (arith, h.least e) in
    sym (shr-shr x 6 (p - 6) ∙ ap (λ (n : ℕ). x / 2 ^ n) six)

one_long : (s : List ℕ) (m k : ℕ) → ones_from s m 1 k ≡ ones_in 64 (low_at 8 s (m + 8 * k))
unfolding ones_from
one_long s m k = add-zero (ones_in 64 (low_at 8 s (m + 8 * k)))

module _ (p : ℕ) (h : Power p) (s : List ℕ) (t : ℕ) where
  -- two places of one stride
  module _ (x y : ℕ) (same : (p ≡ 0 → ⊥) → x / 2 ^ p ≡ y / 2 ^ p) where
    same_long : stride_long p x ≡ stride_long p y
    same_long =
        equal_or p 0
        (λ e. long_none p x e ∙ sym (long_none p y e))
        (λ e. long_some p x e ∙ ap (λ (n : ℕ). n * 2 ^ (p - 6)) (same e) ∙ sym (long_some p y e))

    same_rank : stride_rank p s t x ≡ stride_rank p s t y
    same_rank =
        equal_or p 0
        (λ e. rank_none p s t x e ∙ sym (rank_none p s t y e))
        (λ e. rank_some p s t x e ∙ rw (same e) (sym (rank_some p s t y e)))

  long_start : (k : ℕ) → 64 * k / 64 ≡ k
  long_start k = omega arith

  -- the inner place of a place, by its long
  inner_in_long : (x : ℕ) → inner_in p s t x ≡ before_long p s t (x / 64) + ones_in 64 (long_at p s t (x / 64) % 2 ^ (x % 64))
  inner_in_long x =
      let f : (p ≡ 0 → ⊥) → x / 2 ^ p ≡ 64 * (x / 64) / 2 ^ p =
      λ e. stride_of_lem p x h e ∙ sym (stride_of_lem p (64 * (x / 64)) h e ∙ ap (λ (n : ℕ). n / 2 ^ (p - 6)) (long_start (x / 64))) in
      rw (same_long x (64 * (x / 64)) f, same_rank x (64 * (x / 64)) f) refl

  pub inner_of : (x k d : ℕ) → x / 64 ≡ k → x % 64 ≡ d → inner_in p s t x ≡ before_long p s t k + ones_in 64 (long_at p s t k % 2 ^ d)
  inner_of x k d e f = inner_in_long x ∙ ap₂ (λ (a b : ℕ). before_long p s t a + ones_in 64 (long_at p s t a % 2 ^ b)) e f

  -- at the start of a stride its rank counts them
  pub at_start : (k : ℕ) → stride_long p (64 * k) ≡ k → before_long p s t k ≡ stride_rank p s t (64 * k)
  at_start k e =
      let z : k - k ≡ 0 = omega arith in
      rw (e, z, ones_none s (t + rank_bytes p) k) (add-zero (stride_rank p s t (64 * k)))

  -- the stride's first long is not above
  start_under : (k : ℕ) → stride_long p (64 * k) ≤ k
  start_under k =
      equal_or p 0
      (λ e. omega (arith, long_none p (64 * k) e))
      (λ e. omega (arith, long_some p (64 * k) e, long_in p (64 * k) h e, long_start k))

  -- a long that starts no stride is in that of the long before
  no_start : (k : ℕ) → (stride_long p (64 * (k + 1)) ≡ k + 1 → ⊥) → (p ≡ 0 → ⊥) → 64 * (k + 1) / 2 ^ p ≡ 64 * k / 2 ^ p
  no_start k n e =
      let q : ℕ = 2 ^ (p - 6) in
      let a : ℕ = (k + 1) / q in
      let f : 64 * (k + 1) / 2 ^ p ≡ a = stride_of_lem p (64 * (k + 1)) h e ∙ ap (λ (x : ℕ). x / q) (long_start (k + 1)) in
      let g : 64 * k / 2 ^ p ≡ k / q = stride_of_lem p (64 * k) h e ∙ ap (λ (x : ℕ). x / q) (long_start k) in
      let d : a * q + (k + 1) % q ≡ k + 1 = div-add-mod' (k + 1) q in
      let m : (k + 1) % q < q = mod-lt (k + 1) (pow_pos (p - 6)) in
      let l : stride_long p (64 * (k + 1)) ≡ a * q = long_some p (64 * (k + 1)) e ∙ ap (λ (x : ℕ). x * q) f in
      let u : 0 < (k + 1) % q = equal_or ((k + 1) % q) 0 (λ z. absurd (n (omega arith))) (λ z. omega arith) in
      let r : (k + 1) % q - 1 < q = omega arith in
      let v : k ≡ a * q + ((k + 1) % q - 1) = omega arith in
      let w : k / q ≡ a = ap (λ (x : ℕ). x / q) v ∙ digits_div a r in
      f ∙ sym w ∙ sym g

  pub by_long : (k : ℕ) → (stride_long p (64 * (k + 1)) ≡ k + 1 → ⊥) → before_long p s t (k + 1) ≡ before_long p s t k + ones_in 64 (long_at p s t k)
  by_long k n =
      let f = no_start k n in
      let l = start_under k in
      let a : ℕ = stride_long p (64 * k) in
      let m : ℕ = t + rank_bytes p in
      let d : k + 1 - a ≡ (k - a) + 1 = omega arith in
      let e : a + (k - a) ≡ k = omega arith in
      let o : ones_from s m (k + 1 - a) a ≡ ones_from s m (k - a) a + ones_from s m 1 k = rw d (rw e at (ones_more s m (k - a) 1 a)) in
      rw (same_long (64 * (k + 1)) (64 * k) f, same_rank (64 * (k + 1)) (64 * k) f) (omega (arith, o, one_long s m k))
