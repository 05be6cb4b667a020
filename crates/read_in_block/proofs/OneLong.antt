-- The pairs of one long of a dense block: where no index is left, and where some are. Assumes nothing.
use Rattle.format.specs.Kit.{◌≡◌, refl, ap, ◌∙◌, inl, inr, false, List, ℕ, ◌+◌, ◌-◌, ◌*◌, ◌/◌, ◌≤◌, ◌<◌, min, arith, ones_in, ℤ}
use Rattle.format.specs.Kit.{length, sets, ltb, ltb-true, ltb-false}
use Rattle.format.specs.Limits.{Power}
use Rattle.format.specs.Ids.{dense, kind_of}
use Rattle.format.specs.Opening.{Opened, id_part, value_of}
use Rattle.laws.proofs.Cases.{below_or}
use Rattle.blocks.specs.declared.Block.{Block}
use Rattle.format.specs.ReadFrom.{id_after}
use Rattle.read_in_block.specs.Rows.{bits_from, BitsIn}
use Rattle.format.specs.Drawn.{drawn}
use Rattle.read_in_block.specs.Stretch.{InBlock, InLong, LongTo, before_long, long_at}
use Rattle.read_in_block.proofs.Parts.{stays}
use Rattle.read_in_block.proofs.Longs.{dense_pass, dense_failure}
use Rattle.laws.proofs.Drawn.{drawn_most}
use Rattle.read_in_block.proofs.BitRows.{ones_left, bit_left, none_left, bits_there, bits_passed, bits_part, bits_after}

taken : (from want n inner : ℕ) → n ≡ from + want → inner + (n - from) ≡ inner + want
taken from want n inner e = omega (arith, e)

module _ (bytes : List ℕ) (c : Opened) (b : ℕ) (v : Block) (w : InBlock bytes c b v) (d : kind_of v.count ≡ dense) (h : Power c.head.power)
    (room from r rest inner : ℕ) (x : InLong c.head.power (id_part bytes c) v.start (r / 64) r rest inner) (m : from ≤ room) (want : ℕ)
    (few : want ≡ min (ones_in 64 rest) (room - from)) where
  abbrev p : ℕ
  p = c.head.power

  abbrev s : List ℕ
  s = id_part bytes c

  abbrev k : ℕ
  k = r / 64

  abbrev last : ℕ
  last = before_long p s v.start k + ones_in 64 (long_at p s v.start k)

  -- lists that are not full take all ones
  all_ones : (ones want n : ℕ) → want ≡ min ones (room - from) → n ≡ from + want → (n ≡ room → ⊥) → want ≡ ones
  all_ones ones want n e f g = omega (arith, e, f, g, m)

  left : inner + ones_in 64 rest ≡ last
  left = ones_left p h s v.start k r rest inner x

  -- no index is left: a bit fails
  pub no_index : (ids : List ℕ) (vs : List ℤ) → v.count ≤ inner
      → LongTo bytes c room b v from r inner ids vs (record { count = from; place = r; broken = ltb 0 want; left = false }) ids vs
  no_index ids vs n =
      record {
        reads = stays bytes c room from (b * 65536 + r) ids vs m;
        place = omega (arith, x.most, x.long_most);
        failure = λ e.
            let g = bit_left p h s v.start k r rest inner x (omega (arith, ltb-true 0 want e, few, left)) in
            dense_failure bytes c b v w d s refl p refl h k r rest inner x _ refl g n;
        whole = λ e f.
            let z : ones_in 64 rest ≡ 0 = omega (arith, ltb-false 0 want e, few, m, f) in
            let y : from - from ≡ 0 = omega arith in (
              omega (arith, left, z, y),
              dense_pass bytes c b v w d s refl p refl h k r rest inner x _ refl
                  (none_left p h s v.start k r rest inner x (omega (arith, left, z))),
            );
        index = inl refl;
      }

  module _ (some : inner < v.count) (end n : ℕ) (to : end ≡ from + min want (v.count - inner)) (o : ℕ) (eo : o ≡ v.ordinal + inner)
      (en : n ≡ from + length (drawn (value_of bytes c) (end - from) o)) where
    -- as many values as were asked for, or fewer
    pub within : (from ≤ n) × (n ≤ end) × (end ≤ room) × (inner + (end - from) ≤ last) × (inner + (end - from) ≤ v.count)
        × (end ≤ from + want)
    within = (
      omega (arith, en),
      omega (arith, en, to, drawn_most (value_of bytes c) (end - from) o),
      omega (arith, to, few, m),
      omega (arith, to, few, left),
      omega (arith, to, some),
      omega (arith, to),
    )

    pub bits_here : BitsIn r rest (n - from)
    bits_here = bits_there p h s v.start k (n - from) r rest inner x (omega (arith, within.0, within.1, within.3))

    pub some_index : (ids ids' : List ℕ) (vs vs' : List ℤ) (r' : ℕ) → vs' ≡ sets vs from (drawn (value_of bytes c) (end - from) o)
        → b * 65536 + r' ≡ id_after (b * 65536 + r) (bits_from b r rest (n - from)) → ids' ≡ sets ids from (bits_from b r rest (n - from))
        → LongTo bytes c room b v from r inner ids vs (record { count = n; place = r'; broken = ltb n (from + want); left = false }) ids' vs'
    some_index ids ids' vs vs' r' ev er es =
        let part =
        bits_part bytes c b v w d s refl p refl h k room from end r r' rest inner o n ids ids' vs vs' x (omega (arith, within.0, within.1)) within.2
        within.3
        within.4 eo en ev er es in
        let fits : inner + (n - from) ≤ last = omega (arith, within.0, within.1, within.3) in
        let after = bits_after bytes c b v w d s refl p refl h k r r' rest inner (n - from) x fits er in
        let there = bits_passed p h s v.start k b (n - from) r rest inner r' x fits er in
        record {
          reads = part.0;
          place = omega (arith, after.0, x.long_most);
          failure = λ e.
              below_or n end part.1
              (λ g.
              let u = ltb-true n (from + want) e in
              let bit = bit_left p h s v.start k r' there.0 (inner + (n - from)) there.1 (omega (arith, u, g, within.0, within.1, to, few, left)) in
              dense_failure bytes c b v w d s refl p refl h k r' there.0 (inner + (n - from)) there.1 _ refl bit
              (omega (arith, u, g, within.0, within.1, to)));
          whole = λ e f.
              let as_wanted : n ≡ from + want = omega (arith, ltb-false n (from + want) e, within.1, within.5) in
              let ones : want ≡ ones_in 64 rest = all_ones (ones_in 64 rest) want n few as_wanted f in
              let all : inner + (n - from) ≡ last = taken from want n inner as_wanted ∙ ap (λ (z : ℕ). inner + z) ones ∙ left in
              (all, after.1 all);
          index = inr (omega (arith, within.0, within.1, within.4));
        }
