-- The ids of longs that follow each other, and the first of those that are left. Assumes nothing.
use Rattle.format.specs.Kit.{◌≡◌, refl, sym, ap, ap₂, ◌∙◌, List, [], ◌∷◌, ◌++◌, ℕ, zero, suc, ◌+◌, ◌-◌, ◌*◌, ◌/◌, ◌^◌, ◌≤◌, ◌<◌, arith, ones_in}
use Rattle.format.specs.Kit.{count_trailing_zeros, length, take, length-append}
use Rattle.format.specs.Limits.{Power}
use Rattle.format.specs.Ids.{rank_bytes}
use Rattle.laws.proofs.LongBits.{none_below}
use Rattle.read_in_block.specs.Rows.{bits_from, bits_at, longs_from, ones_ahead}
use Rattle.read_in_block.specs.Stretch.{InLong, before_long, long_at}
use Rattle.read_in_block.proofs.Longs.{long_whole}
use Rattle.read_in_block.proofs.BitRows.{bits_length, bits_more, bits_zero, ones_left, bit_passed}

-- two lists that agree so far agree behind the same front
take_behind : (xs ys zs : List ℕ) (j : ℕ) → take (j - length xs) ys ≡ take (j - length xs) zs → take j (xs ++ ys) ≡ take j (xs ++ zs)
take_behind [] ys zs j e = let z : j - 0 ≡ j = omega arith in rw z at e
take_behind (x ∷ xs) ys zs zero e = refl
take_behind (x ∷ xs) ys zs (suc j) e =
    let z : suc j - suc (length xs) ≡ j - length xs = omega arith in
    ap (λ (l : List ℕ). x ∷ l) (take_behind xs ys zs j (rw z at e))

-- ---- the ids of longs

module _ (s : List ℕ) (m b : ℕ) where
  -- those that are left in long k from place f on, and those of n longs after it
  abbrev pub left_in : ℕ → ℕ → ℕ → ℕ → List ℕ
  left_in n k f bits = bits_from b f bits (ones_in 64 bits) ++ longs_from s m b n (suc k) (64 * suc k)

  pub longs_first : (n k r : ℕ) → longs_from s m b (suc n) k r ≡ left_in n k r (bits_at s m k r)
  unfolding longs_from
  longs_first n k r = refl

  pub longs_none : (n k r : ℕ) → n ≡ 0 → longs_from s m b n k r ≡ []
  unfolding longs_from
  longs_none n k r e = rw e refl

  pub longs_length : (n k r : ℕ) → length (longs_from s m b n k r) ≡ ones_ahead s m n k r
  unfolding longs_from ones_ahead
  longs_length zero k r = refl
  longs_length (suc n) k r =
      let rest : ℕ = bits_at s m k r in
      length-append (bits_from b r rest (ones_in 64 rest)) _ ∙ ap₂ ◌+◌ (bits_length b r rest (ones_in 64 rest)) (longs_length n (suc k) (64 * suc k))

  -- the first ids are those of the first longs
  pub longs_front : (n e k r j : ℕ) → n ≤ e → j ≤ ones_ahead s m n k r → take j (longs_from s m b e k r) ≡ take j (longs_from s m b n k r)
  unfolding longs_from ones_ahead
  longs_front zero e k r j l h = let z : j ≡ 0 = omega (arith, h) in rw z refl
  longs_front (suc n) zero k r j l h = absurd (omega (arith, l))
  longs_front (suc n) (suc e) k r j l h =
      let rest : ℕ = bits_at s m k r in
      let len : length (bits_from b r rest (ones_in 64 rest)) ≡ ones_in 64 rest = bits_length b r rest (ones_in 64 rest) in
      let xs : List ℕ = bits_from b r rest (ones_in 64 rest) in
      take_behind xs _ _ j (longs_front n e (suc k) (64 * suc k) (j - length xs) (omega (arith, l)) (omega (arith, h, len)))

-- ---- bit after bit

module _ (p : ℕ) (h : Power p) (s : List ℕ) (t b k : ℕ) where
  abbrev m : ℕ
  m = t + rank_bytes p

  -- a long from its first place on
  pub whole_long : (bits : ℕ) → k < 1024 → long_at p s t k < 2 ^ 64 → bits ≡ long_at p s t k
      → (bits ≡ bits_at s m k (64 * k)) × InLong p s t k (64 * k) bits (before_long p s t k)
  whole_long bits l u e =
      let z : 64 * k - 64 * k ≡ 0 = omega arith in
      let one : long_at p s t k / 2 ^ (64 * k - 64 * k) ≡ long_at p s t k = rw z (omega arith) in (
        e ∙ sym one,
        record {
          long_most = l;
          from = omega arith;
          most = omega arith;
          small = u;
          rest_is = e ∙ sym one;
          index = rw z (omega (arith, none_below (long_at p s t k)));
        },
      )

  module _ (f bits inner : ℕ) (x : InLong p s t k f bits inner) (n : ℕ) where
    pub no_bit : 64 * k + 64 ≤ f + count_trailing_zeros 64 bits → left_in s m b n k f bits ≡ longs_from s m b n (suc k) (64 * suc k)
    no_bit l =
        let z : ones_in 64 bits ≡ 0 = omega (arith, ones_left p h s t k f bits inner x, long_whole p h s t k f bits inner x _ refl l) in
        ap (λ (xs : List ℕ). xs ++ longs_from s m b n (suc k) (64 * suc k)) (bits_zero b f bits _ z)

    pub a_bit : f + count_trailing_zeros 64 bits < 64 * k + 64 → let z = count_trailing_zeros 64 bits in
        left_in s m b n k f bits ≡ (b * 65536 + (f + z)) ∷ left_in s m b n k (f + z + 1) (bits / 2 ^ (z + 1))
    a_bit l =
        let z : ℕ = count_trailing_zeros 64 bits in
        let rest : ℕ = bits / 2 ^ (z + 1) in
        let after = bit_passed p h s t k f bits inner x l in
        let e : ones_in 64 bits ≡ suc (ones_in 64 rest) = omega (arith, ones_left p h s t k f bits inner x, ones_left p h s t k _ _ _ after) in
        ap (λ (j : ℕ). bits_from b f bits j ++ longs_from s m b n (suc k) (64 * suc k)) e
        ∙ ap (λ (xs : List ℕ). xs ++ longs_from s m b n (suc k) (64 * suc k)) (bits_more b f bits (ones_in 64 rest))
