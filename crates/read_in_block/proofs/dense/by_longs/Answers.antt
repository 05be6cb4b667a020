-- `read_in_block::dense::by_longs` meets its contract. Invariant: the part up to place r, whose index is `rank`. Assumes nothing.
use Rattle.format.specs.Kit.{◌≡◌, ap, ◌∙◌, inl, List, ℕ, ◌+◌, ◌-◌, ◌*◌, ◌/◌, ◌%◌, ◌^◌, ◌≤◌, arith, length, take, drop}
use Rattle.format.specs.Kit.{eqb-true}
use Rattle.format.specs.Limits.{Power}
use Rattle.format.specs.Bytes.{low_at}
use Rattle.format.specs.Ids.{rank_bytes}
use Rattle.format.specs.Opening.{id_part}
use Rattle.laws.proofs.Rules.{head_facts}
use Rattle.read_in_block.proofs.Left.{dense_left}
use Rattle.column.specs.Opened.{column_of}
use Rattle.lookup.proofs.Whole.{Parted, id_part_lem}
use Rattle.read_in_block.specs.Stretch.{InLong, long_at}
use Rattle.read_in_block.proofs.Parts.{passes, then}
use Rattle.read_in_block.proofs.Longs.{in_first, at_long, dense_data}
use Rattle.read_in_block.proofs.dense.by_longs.Goals as goal
use Rattle.read_in_block.proofs.dense.by_longs.Goals.{After-long_at, After-rank_bytes, After-size, After-size-p}

parted : (c : After-size) → let a = c.args in
    Parted a.bytes.now (column_of a.column) c.size-start.result c.size.result
parted c = record {
  starts = c.size-start.ensures;
  ids = c.size.ensures;
  whole = eqb-true _ _
      c.requires.0.whole;
}

-- the id section
abbrev section : After-size → List ℕ
section c = let start = c.size-start.result in
    take (start + c.size.result - start) (drop start c.args.bytes.now)

power : (c : After-size-p) → Power c.size-p.result
power c = rw c.size-p.ensures (head_facts _ c.requires.0.rules).power

in_data : (c : After-rank_bytes)
    → c.args.block.start + rank_bytes c.size-p.result + 8192 ≤ length
    (section (goal.at.After-rank_bytes c).After-size)
in_data c =
    let a = c.args in
    rw c.size-p.ensures
    (dense_data a.bytes.now (column_of a.column) a.b a.block c.requires.1 c.requires.2 _ (id_part_lem (parted (goal.at.After-rank_bytes c).After-size)))

-- the place's long
in_long : (c : After-long_at)
    → let a = c.args in let r = c.loop-r.r in
    InLong a.column.head.power (id_part a.bytes.now (column_of a.column)) a.block.start (r / 64) r (c.long_at.result / 2 ^ (r % 64))
    c.loop-r.rank
in_long c =
    let a = c.args in
    let l = c.loop-r in
    let e : c.long_at.result ≡ long_at c.size-p.result (section (goal.at.After-long_at c).After-size) a.block.start (l.r / 64) =
    c.long_at.ensures ∙ ap (λ (x : ℕ). low_at 8 (section (goal.at.After-long_at c).After-size) (a.block.start + x + 8 * (l.r / 64)))
    c.rank_bytes.ensures.0 in
    rw (id_part_lem (parted (goal.at.After-long_at c).After-size), ← c.size-p.ensures)
    (in_first c.size-p.result (power (goal.at.After-long_at c).After-size-p) _ a.block.start l.r c.loop-r-test.true (rw (← e) (omega arith))
    (ap (λ (x : ℕ). x / 2 ^ (l.r % 64)) e) (l.invariant.3 c.loop-r-test.true))

pub in_long-part-requires : goal.in_long-part-requires
in_long-part-requires c =
    let w = c.loop-r.invariant.0 in
    let n = c.requires.0 in (
      record {
        rules = n.rules;
        whole = n.whole;
        in_ids = omega (arith, w.in_ids.kept, n.in_ids);
        in_values = omega (arith, w.in_values.kept, n.in_values);
        upto = w.most;
      },
      c.requires.1,
      c.requires.2,
      in_long (goal.at.in_long-part-requires c).After-long_at,
    )

pub returns-then-part-room : goal.returns-then-part-room
returns-then-part-room c =
    let g = c.in_long-part in
    let w = g.ensures in
    let a = c.args in
    record {
      reads = then c.loop-r.invariant.0 w.reads;
      place = w.place;
      left = λ z.
          let e = rw c.rank_bytes.ensures.0 at (c.set_from.ensures z) in
          dense_left a.bytes.now (column_of a.column) a.b a.block c.requires.1 g.result.place c.requires.2 _
          (id_part_lem (parted (goal.at.returns-then-part-room c).After-size))
          c.size-p.result c.size-p.ensures (power (goal.at.returns-then-part-room c).After-size-p) e.0 e.2 e.1;
      stops = inl c.if-part-room.true;
    }

pub set_from-requires : goal.set_from-requires
set_from-requires c =
    (omega (arith, in_data (goal.at.set_from-requires c).After-rank_bytes, c.rank_bytes.ensures.0), c.in_long-part.ensures.place)

pub before_next-rank-requires : goal.before_next-rank-requires
before_next-rank-requires c =
    let w = (c.in_long-part.ensures.whole c.if-part.false
    c.if-part-room.false).0 in
    let u = rw (id_part_lem (parted (goal.at.before_next-rank-requires c).After-size), ← c.size-p.ensures) at w in (
      power (goal.at.before_next-rank-requires c).After-size-p,
      omega (arith, c.loop-r-test.true),
      in_data
          (goal.at.before_next-rank-requires c).After-rank_bytes,
      ap
          (λ (x : ℕ). c.loop-r.rank + x) c.long.ensures ∙ u,
    )

pub loop-r-preserved : goal.loop-r-preserved
loop-r-preserved c =
    let l = c.loop-r in
    let a = c.args in
    let g = c.in_long-part.ensures in
    let w = g.whole c.if-part.false c.if-part-room.false in
    let e : 64 * (l.r / 64) + 64 ≡ 64 * (l.r / 64 + 1) = omega arith in (
      then l.invariant.0 (then g.reads (passes _ _ _ _ _ _ _ _ g.reads.most w.1)),
      omega (arith, c.loop-r-test.true),
      omega arith,
      λ h. rw e (at_long c.size-p.result (power (goal.at.loop-r-preserved c).After-size-p) _ a.block.start (l.r / 64 + 1) (c.before_next-rank.ensures (omega (arith, h)))),
    )

pub rank_bytes-requires : goal.rank_bytes-requires
rank_bytes-requires c = power c

pub overflow_add-m : goal.overflow_add-m
overflow_add-m c = omega (arith, in_data c, c.rank_bytes.ensures.0)

pub index_of-rank-requires : goal.index_of-rank-requires
index_of-rank-requires c = (power (goal.at.index_of-rank-requires c).After-size-p, c.requires.3, in_data c)

pub overflow_add-m-in-loop-r : goal.overflow_add-m-in-loop-r
overflow_add-m-in-loop-r c = omega (arith, in_data (goal.at.overflow_add-m-in-loop-r c).After-rank_bytes, c.rank_bytes.ensures.0, c.loop-r-test.true)

pub long_at-requires : goal.long_at-requires
long_at-requires c = omega (arith, in_data (goal.at.long_at-requires c).After-rank_bytes, c.rank_bytes.ensures.0, c.loop-r-test.true)
