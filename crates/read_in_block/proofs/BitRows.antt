-- The first bits of a long's rest are ids in a row. Assumes nothing.
use Rattle.format.specs.Kit.{◌≡◌, refl, sym, ap, ◌∙◌, List, [], ◌∷◌, ℕ, zero, suc, ◌+◌, ◌-◌, ◌*◌, ◌/◌, ◌^◌, ◌≤◌, ◌<◌, arith, ones_in, count_trailing_zeros, ℤ}
use Rattle.format.specs.Kit.{length, take, sets}
use Rattle.format.specs.Limits.{Power}
use Rattle.format.specs.Refusals.{refused, BROKEN}
use Rattle.format.specs.Ids.{dense, kind_of}
use Rattle.format.specs.Opening.{Opened, id_part, value_of}
use Rattle.format.specs.Next.{next_steps}
use Rattle.laws.proofs.Cases.{below_or}
use Rattle.laws.proofs.LongBits.{split_ones}
use Rattle.blocks.specs.declared.Block.{Block}
use Rattle.format.specs.ReadFrom.{id_after}
use Rattle.read_in_block.specs.Rows.{bits_from, BitsIn}
use Rattle.format.specs.Drawn.{drawn}
use Rattle.read_in_block.specs.Parts.{Reads}
use Rattle.read_in_block.specs.Stretch.{InBlock, InLong, before_long, long_at}
use Rattle.read_in_block.proofs.Longs.{long_whole, past_bit, dense_pass, dense_pair}
use Rattle.read_in_block.proofs.Rows.{InRow, row_part}

-- ---- the list

pub bits_length : (b r rest k : ℕ) → length (bits_from b r rest k) ≡ k
unfolding bits_from
bits_length b r rest zero = refl
bits_length b r rest (suc k) = ap suc (bits_length b (suc (r + count_trailing_zeros 64 rest)) _ k)

pub bits_take : (b r rest n k : ℕ) → n ≤ k → take n (bits_from b r rest k) ≡ bits_from b r rest n
unfolding bits_from
bits_take b r rest zero k h = refl
bits_take b r rest (suc n) zero h = absurd (omega (arith, h))
bits_take b r rest (suc n) (suc k) h = ap (λ (xs : List ℕ). (b * 65536 + (r + count_trailing_zeros 64 rest)) ∷ xs) (bits_take b (suc (r + count_trailing_zeros 64 rest)) _ n k (omega (arith, h)))

pub bits_more : (b r rest n : ℕ) → let z = count_trailing_zeros 64 rest in
    bits_from b r rest (suc n) ≡ (b * 65536 + (r + z)) ∷ bits_from b (r + z + 1) (rest / 2 ^ (z + 1)) n
unfolding bits_from
bits_more b r rest n = let one : r + count_trailing_zeros 64 rest + 1 ≡ suc (r + count_trailing_zeros 64 rest) = omega arith in rw one refl

pub bits_zero : (b r rest n : ℕ) → n ≡ 0 → bits_from b r rest n ≡ []
unfolding bits_from
bits_zero b r rest n e = rw e refl

pub bits_after_one : (r rest n : ℕ) → let z = count_trailing_zeros 64 rest in
    BitsIn r rest (suc n) → (z < 64) × (r + z < 65536) × BitsIn (r + z + 1) (rest / 2 ^ (z + 1)) n
bits_after_one r rest n h = let one : r + count_trailing_zeros 64 rest + 1 ≡ suc (r + count_trailing_zeros 64 rest) = omega arith in rw one h

-- ---- within a long

module _ (p : ℕ) (h : Power p) (s : List ℕ) (t k : ℕ) where
  -- the index after the long's last id
  abbrev pub last_index : ℕ
  last_index = before_long p s t k + ones_in 64 (long_at p s t k)

  pub ones_left : (r rest inner : ℕ) → InLong p s t k r rest inner → inner + ones_in 64 rest ≡ last_index
  ones_left r rest inner x =
      let w = split_ones (long_at p s t k) (r - 64 * k) (omega (arith, x.most)) x.small in
      let e : ones_in 64 rest ≡ ones_in 64 (long_at p s t k / 2 ^ (r - 64 * k)) = ap (ones_in 64) x.rest_is in
      omega (arith, w, e, x.index)

  -- while fewer ids were met than the long has with those before it, a bit is left
  pub bit_left : (r rest inner : ℕ) (x : InLong p s t k r rest inner) → inner < last_index → r + count_trailing_zeros 64 rest < 64 * k + 64
  bit_left r rest inner x l =
      below_or (r + count_trailing_zeros 64 rest) (64 * k + 64) (λ g. g)
      (λ g. absurd (omega (arith, l, long_whole p h s t k r rest inner x (r + count_trailing_zeros 64 rest) refl g)))

  -- past a bit
  pub bit_passed : (r rest inner : ℕ) (x : InLong p s t k r rest inner) → r + count_trailing_zeros 64 rest < 64 * k + 64
      → InLong p s t k (suc (r + count_trailing_zeros 64 rest)) (rest / 2 ^ (count_trailing_zeros 64 rest + 1)) (suc inner)
  bit_passed r rest inner x l =
      let z : ℕ = count_trailing_zeros 64 rest in
      let a : r + z - r + 1 ≡ z + 1 = omega arith in
      let one : r + z + 1 ≡ suc (r + z) = omega arith in
      let two : inner + 1 ≡ suc inner = omega arith in
      let w = past_bit p h s t k r rest inner x (r + z) refl l {rest' = rest / 2 ^ (z + 1)} (ap (λ (j : ℕ). rest / 2 ^ j) (sym a)) in
      rw (one, two) at w

  -- after its last id no bit is left
  pub none_left : (r rest inner : ℕ) (x : InLong p s t k r rest inner) → inner ≡ last_index → 64 * k + 64 ≤ r + count_trailing_zeros 64 rest
  none_left r rest inner x e =
      below_or (r + count_trailing_zeros 64 rest) (64 * k + 64)
      (λ g. absurd (omega (arith, e, ones_left _ _ _ (bit_passed r rest inner x g))))
      (λ g. g)

  pub bits_there : (n r rest inner : ℕ) → InLong p s t k r rest inner → inner + n ≤ last_index → BitsIn r rest n
  bits_there zero r rest inner x l = refl
  bits_there (suc n) r rest inner x l =
      let g = bit_left r rest inner x (omega (arith, l)) in (
        omega (arith, g, x.from),
        omega (arith, g, x.long_most),
        bits_there n _ _ (suc inner) (bit_passed r rest inner x g) (omega (arith, l)),
      )

  -- past n bits
  pub bits_passed : (b n r rest inner r' : ℕ) → InLong p s t k r rest inner → inner + n ≤ last_index
      → b * 65536 + r' ≡ id_after (b * 65536 + r) (bits_from b r rest n) → (rest' : ℕ) × InLong p s t k r' rest' (inner + n)
  unfolding bits_from id_after
  bits_passed b zero r rest inner r' x l e =
      let f : r' ≡ r = omega (arith, e) in
      let z : inner + 0 ≡ inner = omega arith in
      (rest, rw (f, z) x)
  bits_passed b (suc n) r rest inner r' x l e =
      let g = bit_left r rest inner x (omega (arith, l)) in
      let up : b * 65536 + suc (r + count_trailing_zeros 64 rest) ≡ suc (b * 65536 + (r + count_trailing_zeros 64 rest)) = omega arith in
      let z : inner + suc n ≡ suc inner + n = omega arith in
      rw z (bits_passed b n _ _ (suc inner) r' (bit_passed r rest inner x g) (omega (arith, l)) (e ∙ rw up refl))

-- ---- of a dense block

module _ (bytes : List ℕ) (c : Opened) (b : ℕ) (v : Block) (w : InBlock bytes c b v) (d : kind_of v.count ≡ dense) (s : List ℕ)
    (i : id_part bytes c ≡ s) (p : ℕ) (q : p ≡ c.head.power) (h : Power p) (k : ℕ) where
  bits_in_row : (n r rest inner : ℕ) (x : InLong p s v.start k r rest inner) → inner + n ≤ last_index p h s v.start k → inner + n ≤ v.count
      → InRow bytes c (b * 65536 + r) (v.ordinal + inner) (bits_from b r rest n)
  unfolding bits_from
  bits_in_row zero r rest inner x l m = refl
  bits_in_row (suc n) r rest inner x l m =
      let y : ℕ = r + count_trailing_zeros 64 rest in
      let up : b * 65536 + suc y ≡ suc (b * 65536 + y) = omega arith in
      let o : v.ordinal + suc inner ≡ suc (v.ordinal + inner) = omega arith in
      let g = bit_left p h s v.start k r rest inner x (omega (arith, l)) in
      let more = bits_in_row n (suc y) _ (suc inner) (bit_passed p h s v.start k r rest inner x g) (omega (arith, l)) (omega (arith, m)) in
      ((dense_pair bytes c b v w d s i p q h k r rest inner x y refl g (omega (arith, m)) refl).0, rw (up, o) at more)

  -- the first bits, as many as have values; where all ones of the long were taken, what comes next stands after it
  pub bits_part : (room from end r r' rest inner o n : ℕ) (ids ids' : List ℕ) (vs vs' : List ℤ) → InLong p s v.start k r rest inner
      → from ≤ end → end ≤ room → inner + (end - from) ≤ last_index p h s v.start k → inner + (end - from) ≤ v.count → o ≡ v.ordinal + inner
      → n ≡ from + length (drawn (value_of bytes c) (end - from) o) → vs' ≡ sets vs from (drawn (value_of bytes c) (end - from) o)
      → b * 65536 + r' ≡ id_after (b * 65536 + r) (bits_from b r rest (n - from)) → ids' ≡ sets ids from (bits_from b r rest (n - from))
      → Reads bytes c room from (b * 65536 + r) ids vs n (b * 65536 + r') ids' vs' × (n < end → next_steps bytes c (b * 65536 + r') ≡ refused BROKEN 0)
  bits_part room from end r r' rest inner o n ids ids' vs vs' x g m l u eo en ev er es =
      row_part bytes c room (bits_from b r rest) (bits_length b r rest) (bits_take b r rest) from end (b * 65536 + r) (b * 65536 + r') (v.ordinal + inner) n
      ids ids' vs vs' g m (bits_in_row (end - from) r rest inner x l u) (rw eo at en) (rw eo at ev) er es

  pub bits_after : (r r' rest inner n : ℕ) → InLong p s v.start k r rest inner → inner + n ≤ last_index p h s v.start k
      → b * 65536 + r' ≡ id_after (b * 65536 + r) (bits_from b r rest n)
      → (r' ≤ 64 * k + 64) × (inner + n ≡ last_index p h s v.start k → next_steps bytes c (b * 65536 + (64 * k + 64)) ≡ next_steps bytes c (b * 65536 + r'))
  bits_after r r' rest inner n x l e =
      let y = bits_passed p h s v.start k b n r rest inner r' x l e in (
        y.1.most,
        λ f. dense_pass bytes c b v w d s i p q h k r' y.0 (inner + n) y.1 _ refl
            (none_left p h s v.start k r' y.0 (inner + n) y.1 f),
      )
