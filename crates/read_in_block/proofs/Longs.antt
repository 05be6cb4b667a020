-- The longs of a dense block, bit after bit. Assumes nothing.
use Rattle.format.specs.Kit.{◌≡◌, refl, sym, ap, ◌∙◌, List, ℕ, ◌+◌, ◌-◌, ◌*◌, ◌/◌, ◌%◌, ◌^◌, ◌≤◌, ◌<◌, arith, ones_in, count_trailing_zeros, shr-shr, mod-eq_of_lt}
use Rattle.format.specs.Kit.{length}
use Rattle.format.specs.Limits.{Power}
use Rattle.format.specs.Refusals.{refused, BROKEN}
use Rattle.format.specs.Ids.{dense, kind_of, by_kind, rank_bytes}
use Rattle.format.specs.Opening.{Opened, id_part}
use Rattle.format.specs.LookUp.{scanned, dense_at, place_at}
use Rattle.format.specs.Next.{next_steps}
use Rattle.blocks.specs.declared.Block.{Block}
use Rattle.in_block.proofs.Bitmap.{dense_clear}
use Rattle.next_in_block.specs.First.{bit_in, inner_in, FirstBit, FirstOne}
use Rattle.next_in_block.proofs.Trailing.{first_set}
use Rattle.next_in_block.proofs.Longs.{long_hit, dense_first, dense_fails}
use Rattle.next_in_block.proofs.OfKind.{of_dense}
use Rattle.read_in_block.specs.Stretch.{InBlock, InLong, before_long, long_at}
use Rattle.read_in_block.proofs.Places.{pair_at, met_at, met_failure, passed_places}
use Rattle.laws.proofs.LongBits.{none_below, one_bit, clear_bits}
use Rattle.read_in_block.proofs.Strides.{inner_of}

module _ (p : ℕ) (h : Power p) (s : List ℕ) (t : ℕ) where
  pub in_first : (r : ℕ) {rest inner : ℕ} → r < 65536 → long_at p s t (r / 64) < 2 ^ 64 → rest ≡ long_at p s t (r / 64) / 2 ^ (r % 64) → inner ≡ inner_in p s t r
      → InLong p s t (r / 64) r rest inner
  in_first r l m e f =
      let d : r - 64 * (r / 64) ≡ r % 64 = omega arith in
      record {
        long_most = omega arith;
        from = omega arith;
        most = omega arith;
        small = m;
        rest_is = rw d e;
        index = rw d (f ∙ inner_of p h s t r (r / 64) (r % 64) refl refl);
      }

  -- the first place of a long has the ids before the long before it
  pub at_long : (k : ℕ) {inner : ℕ} → inner ≡ before_long p s t k → inner ≡ inner_in p s t (64 * k)
  at_long k e =
      let q : 64 * k / 64 ≡ k = omega arith in
      let d : 64 * k % 64 ≡ 0 = omega arith in
      sym (inner_of p h s t (64 * k) k 0 q d ∙ omega (arith, none_below (long_at p s t k), e))

  module _ (k r rest inner : ℕ) (x : InLong p s t k r rest inner) (y : ℕ) (e : y ≡ r + count_trailing_zeros 64 rest) where
    abbrev long : ℕ
    long = long_at p s t k

    bit : FirstBit long (r - 64 * k) (y - 64 * k)
    bit =
        let a = x.from in
        let b : r - 64 * k + count_trailing_zeros 64 rest ≡ y - 64 * k = omega arith in
        rw (← b, x.rest_is) (first_set long (r - 64 * k))

    ones_up : (j : ℕ) → r - 64 * k ≤ j → j ≤ y - 64 * k → j ≤ 64 → inner ≡ before_long p s t k + ones_in 64 (long % 2 ^ j)
    ones_up j a b n =
        let d : r - 64 * k + (j - (r - 64 * k)) ≡ j = omega arith in
        let c = rw d at (clear_bits long (r - 64 * k) (j - (r - 64 * k)) (omega arith) (λ i u v. bit.clear i u (omega arith))) in
        rw c x.index

    -- no bit is left in the long
    module _ (l : 64 * k + 64 ≤ y) where
      pub long_whole : inner ≡ before_long p s t k + ones_in 64 long
      long_whole = let a = x.from in let b = x.most in rw (mod-eq_of_lt x.small) at (ones_up 64 (omega arith) (omega arith) (omega arith))

      pub long_clear : (z : ℕ) → r ≤ z → z < 64 * k + 64 → bit_in s (t + rank_bytes p) z ≡ 0
      long_clear z a b =
          let f = x.from in
          let q : z / 64 ≡ k = omega arith in
          let m : z % 64 ≡ z - 64 * k = omega arith in
          rw (q, m) (bit.clear (z - 64 * k) (omega arith) (omega arith))

    -- the first bit that is left
    module _ (l : y < 64 * k + 64) where
      one_here : FirstOne s (t + rank_bytes p) r y
      one_here =
          let f = x.from in
          let g : 64 * k + (r - 64 * k) ≡ r = omega arith in
          let n : 64 * k + (y - 64 * k) ≡ y = omega arith in
          rw (← n)
          (long_hit s (t + rank_bytes p) k r (r - 64 * k) (y - 64 * k)
          (record { from = omega arith; clear = λ z a b. absurd (omega arith) }) bit (omega arith) x.long_most (omega arith))

      index_here : inner ≡ inner_in p s t y
      index_here =
          let f = x.from in
          let q : y / 64 ≡ k = omega arith in
          let m : y % 64 ≡ y - 64 * k = omega arith in
          ones_up (y - 64 * k) (omega arith) (omega arith) (omega arith) ∙ sym (inner_of p h s t y k (y - 64 * k) q m)

      pub past_bit : {rest' : ℕ} → rest' ≡ rest / 2 ^ (y - r + 1) → InLong p s t k (y + 1) rest' (inner + 1)
      past_bit f =
          let a = x.from in
          let d : y + 1 - 64 * k ≡ y - 64 * k + 1 = omega arith in
          let g : r - 64 * k + (y - r + 1) ≡ y + 1 - 64 * k = omega arith in
          let o = ones_up (y - 64 * k) (omega arith) (omega arith) (omega arith) in
          let n = one_bit long (y - 64 * k) (omega arith) in
          let w = bit.is_set (omega arith) in
          record {
            long_most = x.long_most;
            from = omega arith;
            most = omega arith;
            small = x.small;
            rest_is = f ∙ ap (λ (v : ℕ). v / 2 ^ (y - r + 1)) x.rest_is ∙ shr-shr long (r - 64 * k) (y - r + 1) ∙ ap (λ (v : ℕ). long / 2 ^ v) g;
            index = rw d (omega (arith, o, n, w));
          }

-- ---- a dense block

dense_place : (p : ℕ) (s : List ℕ) (t c y : ℕ) → kind_of c ≡ dense → place_at scanned p s t c y ≡ dense_at p s t c y
unfolding place_at by_kind
dense_place p s t c y e = rw e refl

module _ (bytes : List ℕ) (c : Opened) (b : ℕ) (v : Block) (w : InBlock bytes c b v) (d : kind_of v.count ≡ dense) (s : List ℕ)
    (i : id_part bytes c ≡ s) where
  pub dense_data : v.start + rank_bytes c.head.power + 8192 ≤ length s
  dense_data = omega (arith, (of_dense c.head.power v.count s v.start 0 d).0, w.data_end, ap length i)

  module _ (p : ℕ) (q : p ≡ c.head.power) (h : Power p) (k r rest inner : ℕ) (x : InLong p s v.start k r rest inner) (y : ℕ)
      (e : y ≡ r + count_trailing_zeros 64 rest) where
    pub dense_pass : 64 * k + 64 ≤ y → next_steps bytes c (b * 65536 + (64 * k + 64)) ≡ next_steps bytes c (b * 65536 + r)
    dense_pass l =
        let m = x.long_most in
        passed_places bytes c b v w r (64 * k + 64) 1 x.most (omega arith)
        (λ z a n. rw (i, ← q)
        (dense_place p s v.start v.count z d
        ∙ dense_clear p s v.start v.count z (long_clear p h s v.start k r rest inner x y e l z a n)))

    module _ (l : y < 64 * k + 64) where
      here : r < 65536
      here = omega (arith, x.long_most)

      pub dense_pair : {id : ℕ} → inner < v.count → id ≡ b * 65536 + y
          → (next_steps bytes c (b * 65536 + r) ≡ pair_at bytes c id (v.ordinal + inner)) × (v.ordinal + inner < c.head.count)
      dense_pair n g =
          let j = index_here p h s v.start k r rest inner x y e l in
          let o = one_here p h s v.start k r rest inner x y e l in
          let u = dense_first p s v.start v.count r y o (omega (arith, x.long_most)) (rw j at n) in
          rw g (
            met_at bytes c b v w r here y inner
                (rw (i, ← q, j) (sym ((of_dense p v.count s v.start r d).1 (65536 - r)) ∙ u)),
            omega (arith, w.last),
          )

      pub dense_failure : v.count ≤ inner → next_steps bytes c (b * 65536 + r) ≡ refused BROKEN 0
      dense_failure n =
          let j = index_here p h s v.start k r rest inner x y e l in
          let o = one_here p h s v.start k r rest inner x y e l in
          let u = dense_fails p s v.start v.count r y o (omega (arith, x.long_most)) (rw j at n) in
          met_failure bytes c b v w r here (rw (i, ← q) (sym ((of_dense p v.count s v.start r d).1 (65536 - r)) ∙ u))
