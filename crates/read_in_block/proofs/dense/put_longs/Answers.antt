-- `read_in_block::dense::put_longs` meets its contract. Invariant: what is left are the ids of the bits of long k that are left, and those of the longs
use Rattle.format.specs.Kit.{◌≡◌, refl, sym, ap, ap₂, ◌∙◌, List, ◌∷◌, ℕ, suc, ◌+◌, ◌-◌, ◌*◌, ◌/◌, ◌%◌, ◌^◌, ◌≤◌, ◌<◌, arith, length, take, count_trailing_zeros}
use Rattle.format.specs.Kit.{mul-one, pow-zero}
use Rattle.format.specs.Ids.{rank_bytes}
use Rattle.format.specs.Bytes.{low_at}
use Rattle.laws.proofs.Cases.{below_or}
use Rattle.laws.proofs.Stores.{begun, one_more, filled}
use Rattle.format.specs.ReadFrom.{id_after}
use Rattle.read_in_block.specs.Rows.{bits_at, longs_from}
use Rattle.read_in_block.specs.Stretch.{before_long, long_at}
use Rattle.read_in_block.proofs.Longs.{in_first}
use Rattle.read_in_block.proofs.LongIds.{left_in, longs_first, longs_none, whole_long}
use Rattle.read_in_block.proofs.HeldBits.{Held, held_none, held_bit}
use Rattle.read_in_block.proofs.Rows.{after_more, after_none}
use Rattle.read_in_block.proofs.dense.put_longs.Goals as goal
use Rattle.read_in_block.proofs.dense.put_longs.Goals.{After-id_of-id, After-rank_bytes, After-zeros_below, Else-bits-eq0, Then-bits-eq0}

-- the longs of the block
in_data : (c : After-rank_bytes) → let a = c.args in (c.rank_bytes.result ≡ rank_bytes a.p)
    × (a.t + c.rank_bytes.result + 8192 ≤ length a.s.now)
in_data c = (c.rank_bytes.ensures.0, omega (arith, c.rank_bytes.ensures.0, c.requires.5))

pub loop-i-init : goal.loop-i-init
loop-i-init c =
    let d = in_data (goal.at.loop-i-init c).After-rank_bytes in
    let a = c.args in
    let m : ℕ = a.t + rank_bytes a.p in
    let k : ℕ = a.r / 64 in
    let e : c.long_at.result ≡ long_at a.p a.s.now a.t k =
    c.long_at.ensures ∙ ap (λ (x : ℕ). low_at 8 a.s.now (a.t + x + 8 * k)) d.0 in
    let off : a.r - 64 * k ≡ a.r % 64 = omega arith in
    let rest : ℕ = c.long_at.result / 2 ^ (a.r % 64) in
    let bits : rest ≡ bits_at a.s.now m k a.r = ap (λ (x : ℕ). x / 2 ^ (a.r % 64)) e ∙ rw off refl in
    let one : 1024 - k ≡ suc (1023 - k) = omega (arith, c.requires.4) in
    let list : longs_from a.s.now m a.b (1024 - k) k a.r ≡ left_in a.s.now m a.b (1023 - k) k a.r rest =
    ap (λ (n : ℕ). longs_from a.s.now m a.b n k a.r) one ∙ longs_first a.s.now m a.b (1023 - k) k a.r
    ∙ ap (left_in a.s.now m a.b (1023 - k) k a.r) (sym bits) in (
      omega arith,
      c.requires.0,
      omega (arith, c.requires.4),
      record {
        left = left_in a.s.now m a.b (1023 - k) k a.r rest;
        held = record {
          place = a.r;
          rest = rest;
          inner = _;
          in_long = in_first a.p c.requires.3 a.s.now a.t a.r c.requires.4 (rw (← e) (omega arith))
              (ap (λ (x : ℕ). x / 2 ^ (a.r % 64)) e) refl;
          moved = c.bits_from-bits.ensures ∙ rw off refl;
          ids = refl;
        };
        most = omega (arith, c.requires.6, ap length list);
        fill = begun _ _ _ _ (ap (take (a.end - a.from)) list);
        after = ap (λ (xs : List ℕ). id_after (a.b * 65536 + a.r) (take (a.end - a.from) xs)) (sym list);
      },
    )

-- no bit is left in the long: the ids of the next one
next_long : (c : Then-bits-eq0) → let l = c.loop-i in let a = c.args in
    l.invariant.3.left ≡ longs_from a.s.now (a.t + rank_bytes a.p) a.b (1023 - l.k) (suc l.k) (64 * suc l.k)
next_long c =
    let l = c.loop-i in
    let a = c.args in
    held_none a.p c.requires.3 a.s.now a.t a.b l.k l.bits l.invariant.3.left l.invariant.3.held c.if-bits-eq0.true

-- and there is one
more_longs : (c : Then-bits-eq0) → c.loop-i.k + 1 < 1024
more_longs c =
    let l = c.loop-i in
    let a = c.args in
    below_or (l.k + 1) 1024 (λ h. h)
    (λ h. absurd (omega (
      arith,
      l.invariant.3.most,
      c.loop-i-test.true,
      ap length (next_long c ∙ longs_none a.s.now (a.t + rank_bytes a.p) a.b (1023 - l.k) (suc l.k) (64 * suc l.k) (omega (arith, h))),
    )))

pub loop-i-preserved-then-bits-eq0 : goal.loop-i-preserved-then-bits-eq0
loop-i-preserved-then-bits-eq0 c =
    let l = c.loop-i in
    let v = l.invariant.3 in
    let d = in_data (goal.at.loop-i-preserved-then-bits-eq0 c).After-rank_bytes in
    let a = c.args in
    let m : ℕ = a.t + rank_bytes a.p in
    let k : ℕ = l.k + 1 in
    let e : c.long_at-bits.result ≡ long_at a.p a.s.now a.t k =
    c.long_at-bits.ensures ∙ ap (λ (x : ℕ). low_at 8 a.s.now (a.t + x + 8 * k)) d.0 in
    let w = whole_long a.p c.requires.3 a.s.now a.t a.b k c.long_at-bits.result (more_longs (goal.at.loop-i-preserved-then-bits-eq0 c).Then-bits-eq0) (rw (← e) (omega arith)) e in
    let one : 1023 - l.k ≡ suc (1023 - k) = omega (arith, more_longs (goal.at.loop-i-preserved-then-bits-eq0 c).Then-bits-eq0) in
    let up : suc l.k ≡ k = omega arith in
    let zero-gap : 64 * k - 64 * k ≡ 0 = omega arith in
    let list : v.left ≡ left_in a.s.now m a.b (1023 - k) k (64 * k) c.long_at-bits.result =
    next_long (goal.at.loop-i-preserved-then-bits-eq0 c).Then-bits-eq0 ∙ ap₂ (λ (n j : ℕ). longs_from a.s.now m a.b n j (64 * j)) one up ∙ longs_first a.s.now m a.b (1023 - k) k (64 * k)
    ∙ ap (left_in a.s.now m a.b (1023 - k) k (64 * k)) (sym w.0) in (
      l.invariant.0,
      l.invariant.1,
      l.invariant.2,
      record {
        left = v.left;
        held = record {
          place = 64 * k;
          rest = c.long_at-bits.result;
          inner = before_long a.p a.s.now a.t k;
          in_long = w.1;
          moved = sym (rw (zero-gap, pow-zero 2) (mul-one c.long_at-bits.result));
          ids = list;
        };
        most = v.most;
        fill = v.fill;
        after = v.after;
      },
    )

-- ---- a bit
bit : (c : Else-bits-eq0) → let l = c.loop-i in let a = c.args in
    let z = count_trailing_zeros 64 l.bits in
    (64 * l.k + z < 65536) × ((more : List ℕ) × (l.invariant.3.left ≡ (a.b * 65536 + (64 * l.k + z)) ∷ more)
    × Held a.p a.s.now a.t a.b l.k (l.bits - 2 ^ z) more)
bit c =
    let l = c.loop-i in
    let a = c.args in
    held_bit a.p c.requires.3 a.s.now a.t a.b l.k l.bits l.invariant.3.left l.invariant.3.held (omega (arith, c.if-bits-eq0.false))

-- its place
place : (c : After-zeros_below) → let l = c.loop-i in
    (64 * l.k + c.zeros_below.result ≡ 64 * l.k + count_trailing_zeros 64 l.bits) × (64 * l.k + c.zeros_below.result < 65536)
place c =
    let e = c.zeros_below.ensures.0 in
    (omega (arith, e), omega (arith, e, (bit (goal.at.After-zeros_below c).Else-bits-eq0).0))

pub loop-i-preserved : goal.loop-i-preserved
loop-i-preserved c =
    let l = c.loop-i in
    let v = l.invariant.3 in
    let a = c.args in
    let w = bit (goal.at.loop-i-preserved c).Else-bits-eq0 in
    let rest : List ℕ = w.1.0 in
    let n : ℕ = a.end - (l.i + 1) in
    let is : c.id_of-id.result ≡ a.b * 65536 + (64 * l.k + count_trailing_zeros 64 l.bits) = c.id_of-id.ensures ∙ ap (λ (y : ℕ). a.b * 65536 + y) (place (goal.at.loop-i-preserved c).After-zeros_below).0 in
    let k : a.end - l.i ≡ suc n = omega (arith, c.loop-i-test.true) in
    let list : v.left ≡ c.id_of-id.result ∷ rest = w.1.1 ∙ ap (λ (id : ℕ). id ∷ rest) (sym is) in
    let more : take (a.end - l.i) v.left ≡ c.id_of-id.result ∷ take n rest = ap (λ (y : ℕ). take y v.left) k ∙ ap (take (suc n)) list in
    let next : a.b * 65536 + (64 * l.k + c.zeros_below.result + 1) ≡ suc c.id_of-id.result = omega (arith, c.id_of-id.ensures) in (
      omega arith,
      omega (arith, c.loop-i-test.true),
      omega (arith, (place (goal.at.loop-i-preserved c).After-zeros_below).1),
      record {
        left = rest;
        held = rw c.without_lowest-bits.ensures w.1.2;
        most = omega (arith, v.most, ap length list, c.loop-i-test.true);
        fill = one_more _ _ _ _ _ _ v.fill _ _ more;
        after = ap (λ (u : ℕ). id_after u (take n rest)) next ∙ sym (after_more (a.b * 65536 + l.y) c.id_of-id.result (take n rest))
            ∙ ap (id_after (a.b * 65536 + l.y)) (sym more) ∙ v.after;
      },
    )

pub returns : goal.returns
returns c =
    let l = c.loop-i in
    let v = l.invariant.3 in
    let a = c.args in
    let z : a.end - l.i ≡ 0 = omega (arith, c.loop-i-test.false, l.invariant.1) in
    let e = ap (λ (n : ℕ). take n v.left) z in
    (sym (after_none _) ∙ ap (id_after (a.b * 65536 + l.y)) (sym e) ∙ v.after, filled _ _ _ _ _ _ v.fill e, l.invariant.2)

-- there is a place for the id
room : (c : After-id_of-id) → let l = c.loop-i in l.i < length l.ids
room c =
    let l = c.loop-i in
    omega (arith, l.invariant.3.fill.kept, c.loop-i-test.true, c.requires.1)

pub long_at-bits-requires : goal.long_at-bits-requires
long_at-bits-requires c = omega (arith, more_longs c, (in_data (goal.at.long_at-bits-requires c).After-rank_bytes).1)
