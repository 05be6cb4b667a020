-- `pair_at::places::in_longs` meets its contract. Invariant: the longs that are left give what all give. Assumes nothing.
use Rattle.format.specs.Kit.{◌≡◌, refl, ap, ◌∙◌, ◌+◌, ◌-◌, ◌*◌, ◌^◌, ◌<◌, arith, ones_in}
use Rattle.format.specs.Bytes.{low_at}
use Rattle.format.specs.PairAt.{bit_after}
use Rattle.pair_at.proofs.BitAfter.{long_passed, bit_found}
use Rattle.pair_at.proofs.places.in_longs.Goals as goal
use Rattle.pair_at.proofs.places.in_longs.Goals.{After-long_at-long}

-- the long
small : (c : After-long_at-long)
    → let a = c.args in low_at 8 a.s.now (a.m + 8 * c.loop-k.k) < 2 ^ 64
small c = rw (← c.long_at-long.ensures) (omega arith)

pub loop-k-preserved : goal.loop-k-preserved
loop-k-preserved c =
    let l = c.loop-k in
    let a = c.args in
    let ones : c.ones_of-ones.result ≡ ones_in 64 (low_at 8 a.s.now (a.m + 8 * l.k)) = c.ones_of-ones.ensures.0 ∙ ap (ones_in 64) c.long_at-long.ensures in
    let w = long_passed a.s.now a.m l.k (small (goal.at.loop-k-preserved c).After-long_at-long) (64 * (a.end - (l.k + 1))) l.j (omega (arith, c.if-j-ones.false, ones)) in
    let many : 64 + 64 * (a.end - (l.k + 1)) ≡ 64 * (a.end - l.k) = omega (arith, c.loop-k-test.true) in
    let up : 64 * l.k + 64 ≡ 64 * (l.k + 1) = omega arith in
    l.invariant ∙ (rw (many, up, ← ones) at w)

pub returns-then-j-ones : goal.returns-then-j-ones
returns-then-j-ones c =
    let l = c.loop-k in
    let a = c.args in
    let n = c.nth_one.ensures in
    let e = c.long_at-long.ensures in (
      l.invariant
          ∙ bit_found a.s.now a.m l.k (small (goal.at.returns-then-j-ones c).After-long_at-long) c.nth_one.result l.j n.0 (rw e at n.1) (rw e at n.2) (64 * (a.end - l.k))
          (omega (arith, n.0, c.loop-k-test.true)),
      omega (arith, n.0, c.loop-k-test.true, c.requires.1),
    )

pub returns : goal.returns
unfolding bit_after
returns c =
    let l = c.loop-k in
    let a = c.args in
    let z : 64 * (a.end - l.k) ≡ 0 = omega (arith, c.loop-k-test.false) in
    l.invariant ∙ rw z refl

pub loop-k-init : goal.loop-k-init
loop-k-init c = refl

pub overflow_mul-k : goal.overflow_mul-k
overflow_mul-k c = omega (arith, c.loop-k-test.true, c.requires.1)

pub overflow_add-m : goal.overflow_add-m
overflow_add-m c = omega (arith, c.loop-k-test.true, c.requires.1, c.requires.2)

pub long_at-long-requires : goal.long_at-long-requires
long_at-long-requires c = omega (arith, c.loop-k-test.true, c.requires.1, c.requires.2)

pub overflow_mul-result : goal.overflow_mul-result
overflow_mul-result c = omega (arith, c.loop-k-test.true, c.requires.1)

pub nth_one-requires : goal.nth_one-requires
nth_one-requires c = omega (arith, c.if-j-ones.true, c.ones_of-ones.ensures.0)

pub overflow_add-result : goal.overflow_add-result
overflow_add-result c = omega (
  arith,
  c.loop-k-test.true,
  c.requires.1,
  c.nth_one.ensures.0,
)
