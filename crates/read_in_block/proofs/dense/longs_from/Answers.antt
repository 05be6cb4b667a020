-- `read_in_block::dense::longs_from` meets its contract. Invariant: longs that follow from place y on follow from place r on. Assumes nothing.
use Rattle.format.specs.Kit.{◌≡◌, refl, ap, ◌∙◌, ℕ, ◌+◌, ◌-◌, ◌*◌, ◌/◌, ◌%◌, ◌^◌, ◌≤◌, ◌<◌, arith, length, ones_in}
use Rattle.format.specs.Ids.{rank_bytes}
use Rattle.format.specs.Bytes.{low_at}
use Rattle.next_in_block.specs.First.{inner_in}
use Rattle.read_in_block.specs.Rows.{bits_at}
use Rattle.read_in_block.specs.Stretch.{InLong, long_at}
use Rattle.read_in_block.proofs.Longs.{in_first, at_long}
use Rattle.read_in_block.proofs.BitRows.{ones_left}
use Rattle.read_in_block.proofs.Ahead.{Ahead, ahead_more, ahead_done}
use Rattle.read_in_block.proofs.dense.longs_from.Goals as goal
use Rattle.read_in_block.proofs.dense.longs_from.Goals.{After-before_next, After-long_at, After-rank_bytes, After-size-more}

-- the longs of the block
in_data : (c : After-rank_bytes) → let a = c.args in (c.rank_bytes.result ≡ rank_bytes a.p)
    × (a.t + c.rank_bytes.result + 8192 ≤ length a.s.now)
in_data c = (c.rank_bytes.ensures.0, omega (arith, c.rank_bytes.ensures.0, c.requires.2))

-- the place's long
in_long : (c : After-long_at) → let l = c.loop-y in let a = c.args in
    let k = l.y / 64 in
    (c.long_at.result / 2 ^ (l.y % 64) ≡ bits_at a.s.now (a.t + rank_bytes a.p) k l.y)
    × InLong a.p a.s.now a.t k l.y (bits_at a.s.now (a.t + rank_bytes a.p) k l.y) (a.rank + l.ones)
in_long c =
    let l = c.loop-y in
    let a = c.args in
    let k : ℕ = l.y / 64 in
    let d = in_data (goal.at.After-long_at c).After-rank_bytes in
    let e : c.long_at.result ≡ long_at a.p a.s.now a.t k =
    c.long_at.ensures ∙ ap (λ (x : ℕ). low_at 8 a.s.now (a.t + x + 8 * k)) d.0 in
    let off : l.y - 64 * k ≡ l.y % 64 = omega arith in (
      ap (λ (x : ℕ). x / 2 ^ (l.y % 64)) e ∙ rw off refl,
      in_first a.p c.requires.0 a.s.now a.t l.y c.loop-y-test.true (rw (← e) (omega arith)) (rw off refl)
          (l.invariant.2 c.loop-y-test.true),
    )

-- how many ids it has left
ones : (c : After-size-more) → let l = c.loop-y in
    let a = c.args in
    c.size-more.result ≡ ones_in 64 (bits_at a.s.now (a.t + rank_bytes a.p) (l.y / 64) l.y)
ones c = c.size-more.ensures ∙ c.ones_of.ensures.0 ∙ ap (ones_in 64) (in_long (goal.at.After-size-more c).After-long_at).0

pub before_next-requires : goal.before_next-requires
before_next-requires c =
    let l = c.loop-y in
    let a = c.args in
    let left = ones_left a.p c.requires.0 a.s.now a.t (l.y / 64) l.y _ (a.rank + l.ones) (in_long (goal.at.before_next-requires c).After-long_at).1 in
    (c.requires.0, omega (arith, c.loop-y-test.true), c.requires.2, omega (arith, c.long.ensures, ones (goal.at.before_next-requires c).After-size-more, left))

-- one long more
longer : (c : After-before_next) → let l = c.loop-y in
    let a = c.args in
    Ahead a.p a.s.now a.t a.r a.rank (64 * (l.y / 64) + 64) (l.ones + c.size-more.result)
    × (64 * (l.y / 64) + 64 < 65536 → c.before_next.result ≡ inner_in a.p a.s.now a.t (64 * (l.y / 64) + 64))
longer c =
    let l = c.loop-y in
    let a = c.args in
    let e : 64 * (l.y / 64) + 64 ≡ 64 * (l.y / 64 + 1) = omega arith in (
      ahead_more a.p c.requires.0 a.s.now a.t a.r a.rank l.y l.ones c.size-more.result l.invariant.0 c.loop-y-test.true
          (in_long (goal.at.After-before_next c).After-long_at).1 (ones (goal.at.After-before_next c).After-size-more),
      λ y. rw e (at_long a.p c.requires.0 a.s.now a.t (l.y / 64 + 1) (c.before_next.ensures (omega (arith, y)))),
    )

pub returns-then-most-ones : goal.returns-then-most-ones
returns-then-most-ones c =
    let l = c.loop-y in
    let a = c.args in
    ahead_done a.p a.s.now a.t a.r a.rank a.most l.y l.ones l.invariant.0 l.invariant.1

pub returns-then-before_next-after : goal.returns-then-before_next-after
returns-then-before_next-after c =
    let a = c.args in
    ahead_done a.p a.s.now a.t a.r a.rank a.most _ _ (longer (goal.at.returns-then-before_next-after c).After-before_next).0
    (omega (arith, c.loop-y.invariant.1, c.if-most-ones.false))

pub loop-y-preserved : goal.loop-y-preserved
loop-y-preserved c = (
  (longer (goal.at.loop-y-preserved c).After-before_next).0,
  omega (arith, c.loop-y.invariant.1, c.if-most-ones.false),
  λ y. omega (arith, c.if-before_next-after.false, c.long.ensures, (longer (goal.at.loop-y-preserved c).After-before_next).1 y),
)

pub returns : goal.returns
returns c =
    let l = c.loop-y in
    let a = c.args in
    ahead_done a.p a.s.now a.t a.r a.rank a.most l.y l.ones l.invariant.0 l.invariant.1
