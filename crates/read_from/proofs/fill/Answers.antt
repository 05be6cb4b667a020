-- `read_from::fill` meets its contract. Invariant: the part up to place r of block b. Assumes nothing.
use Rattle.format.specs.Kit.{refl, sym, ◌∙◌, subst, ◌+◌, ◌*◌, arith, eqb-true}
use Rattle.column.specs.Opened.{column_of}
use Rattle.lookup.specs.Steps.{Fair}
use Rattle.lookup.proofs.Whole.{Parted, id_part_lem, id_length}
use Rattle.next.proofs.Answers.{asked_of, asked_id, asked_block}
use Rattle.read_in_block.proofs.Parts.{stays, passes, then}
use Rattle.read_from.proofs.Passed.{above_all, blocks_passed}
use Rattle.read_from.proofs.Replies.{after_block}
use Rattle.read_from.proofs.fill.Goals as goal
use Rattle.read_from.proofs.fill.Goals.{After-size}

parted : (c : After-size) → let a = c.args in
    Parted a.bytes.now (column_of a.column) c.size-start.result c.size.result
parted c = record {
  starts = c.size-start.ensures;
  ids = c.size.ensures;
  whole = eqb-true _ _
      c.requires.0.whole;
}

pub loop-b-init : goal.loop-b-init
loop-b-init c =
    let a = c.args in
    let q = c.ask_of-q in
    let col = column_of a.column in
    let e = asked_id col a.target q.result q.ensures.0 in (
      rw e (stays _ _ _ _ _ _ _ (omega arith)),
      q.ensures.1.place,
      omega (arith, asked_block col a.target q.result q.ensures.0 c.requires.1),
    )

pub block_from-part-requires : goal.block_from-part-requires
block_from-part-requires c =
    let a = c.args in
    let q = c.ask_of-q in
    let n = c.requires.0 in
    let v = c.loop-b.invariant in
    let w = v.0 in (
      record {
        rules = n.rules;
        whole = n.whole;
        in_ids = omega (arith, n.in_ids, w.in_ids.kept);
        in_values = omega (arith, n.in_values, w.in_values.kept);
        upto = w.most;
      },
      asked_of (column_of a.column) a.target q.result q.ensures.0,
      q.ensures.1,
      omega (arith, c.loop-b-test.true),
      v.1,
    )

pub returns-then-part : goal.returns-then-part
returns-then-part c =
    let g = c.block_from-part in
    let s = rw c.if-part.true at g.ensures.stops in
    record {
      target = _;
      reads = then c.loop-b.invariant.0
          g.ensures.reads;
      ended = s;
      full = λ z. cc;
    }

pub ended_after-requires : goal.ended_after-requires
ended_after-requires c =
    let n = c.requires.0 in (
      n.rules,
      n.whole,
      omega (arith, c.loop-b-test.true),
      c.block_from-part.ensures.place,
      c.block_from-part.ensures.left,
    )

pub returns-then-part-room : goal.returns-then-part-room
returns-then-part-room c =
    let g = c.block_from-part in
    let w = then c.loop-b.invariant.0 g.ensures.reads in
    record { target = _; reads = rw c.if-part-room.true at w; ended = rw c.if-part-room.true at c.ended_after.ensures; full = λ z. refl }

pub next_block-b-requires : goal.next_block-b-requires
next_block-b-requires c =
    let q = c.ask_of-q in (
      subst (λ n. Fair n q.result)
          (sym (id_length (parted (goal.at.next_block-b-requires c).After-size)))
          q.ensures.1,
      omega (arith, c.loop-b-test.true),
    )

pub loop-b-preserved : goal.loop-b-preserved
loop-b-preserved c =
    let a = c.args in
    let q = c.ask_of-q in
    let col = column_of a.column in
    let l = c.loop-b in
    let g = c.block_from-part in
    let x = c.next_block-b in
    let p = blocks_passed a.bytes.now col _ q.result l.b x.result (asked_of col a.target q.result q.ensures.0)
    (id_part_lem (parted (goal.at.loop-b-preserved c).After-size)) x.ensures in (
      then (then l.invariant.0 (after_block a.bytes.now col a.room l.b l.i l.r _ _ g.result _ _ g.ensures
          c.if-part.false c.if-part-room.false))
          (passes _ _ _ _ _ _ _ _ g.ensures.reads.most p),
      omega arith,
      x.ensures.most,
    )

pub returns : goal.returns
returns c =
    let l = c.loop-b in
    let a = c.args in
    record {
      target = _;
      reads = l.invariant.0;
      ended = above_all a.bytes.now (column_of a.column) (l.b * 65536 + l.r) (omega (arith, c.loop-b-test.false));
      full = λ z. cc;
    }

pub overflow_add-end : goal.overflow_add-end
overflow_add-end c = omega (arith, (parted c).whole)

pub ask_of-q-requires : goal.ask_of-q-requires
ask_of-q-requires c = c.requires.0.rules

pub shape_of-ids-then-part : goal.shape_of-ids-then-part
shape_of-ids-then-part c = c.block_from-part.auto.ids
    ∙ c.loop-b.invariant.0.in_ids.kept

pub shape_of-values-then-part : goal.shape_of-values-then-part
shape_of-values-then-part c = c.block_from-part.auto.values
    ∙ c.loop-b.invariant.0.in_values.kept

pub shape_of-ids-then-part-room : goal.shape_of-ids-then-part-room
shape_of-ids-then-part-room c = c.block_from-part.auto.ids
    ∙ c.loop-b.invariant.0.in_ids.kept

pub shape_of-values-then-part-room : goal.shape_of-values-then-part-room
shape_of-values-then-part-room c = c.block_from-part.auto.values
    ∙ c.loop-b.invariant.0.in_values.kept

pub slice_bounds-next_block-count : goal.slice_bounds-next_block-count
slice_bounds-next_block-count c = omega (arith, (parted (goal.at.slice_bounds-next_block-count c).After-size).whole)

pub slice_bounds-next_block-start : goal.slice_bounds-next_block-start
slice_bounds-next_block-start c = omega (arith, (parted (goal.at.slice_bounds-next_block-start c).After-size).whole)

pub slice_bounds-next_block-end : goal.slice_bounds-next_block-end
slice_bounds-next_block-end c = omega (arith, (parted (goal.at.slice_bounds-next_block-end c).After-size).whole)

pub overflow_add-b : goal.overflow_add-b
overflow_add-b c = omega (arith, c.loop-b-test.true)

pub loop-b-smaller : goal.loop-b-smaller
loop-b-smaller c = omega (
  arith,
  c.next_block-b.ensures.from,
  c.loop-b-test.true,
)

pub shape_of-ids : goal.shape_of-ids
shape_of-ids c = c.loop-b.invariant.0.in_ids.kept

pub shape_of-values : goal.shape_of-values
shape_of-values c = c.loop-b.invariant.0.in_values.kept
