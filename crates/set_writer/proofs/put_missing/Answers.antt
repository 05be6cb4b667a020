-- `set_writer::put_missing` meets its contract. The loop's invariant: the missing places from x on, past the listed ones before index j, are what
use Rattle.format.specs.Kit.{◌≡◌, refl, sym, ap, ◌∙◌, subst, List, ℕ, suc, ◌+◌, ◌-◌, ◌++◌, ◌*◌, ◌<◌, ◌≤◌, add-one, arith, length, sets}
use Rattle.format.specs.Pairs.{Asc}
use Rattle.format.specs.SetBytes.{missing}
use Rattle.laws.proofs.Stores.{begun, part_more, room}
use Rattle.set_format.proofs.Data.{length_shorts_bytes}
use Rattle.block_writer.specs.Part.{places_from}
use Rattle.set_writer.proofs.Spans.{span, span_long, left_of, left_more, left_last, asc_next}
use Rattle.set_writer.proofs.put_missing.Goals as goal
use Rattle.set_writer.proofs.put_missing.Goals.{After-place_of-y, Start}

-- all missing places have room
whole_fits : (s : Start) → s.args.at + length (left_of s.args.part.now 0 0) ≤ length s.args.out.now
whole_fits s = omega (arith, s.requires.1, length_shorts_bytes (missing 65536 0 (places_from s.args.part.now 0)))

-- The next place, y: it is not below x, what is left begins with the span up to it, and that span has room.
record Next (xs : List ℕ) (x i j y : ℕ) (out : List ℕ) : Type 0 where
  low_is : x ≤ y
  more : left_of xs x j ≡ span (y - x) x ++ left_of xs (y + 1) (j + 1)
  after : Asc (suc y) (places_from xs (j + 1))
  fits : i + 2 * (y - x) ≤ length out

next : (c : After-place_of-y)
    → (Next c.args.part.now c.loop-id.x c.loop-id.i c.loop-id.id-index c.place_of-y.result c.loop-id.out)
next c =
    let l = c.loop-id in
    let xs = c.args.part.now in
    let y = c.place_of-y in
    let in-part : l.id-index < length xs = omega arith in
    let t = asc_next xs l.x l.id-index in-part l.invariant.2 in
    let lo : l.x ≤ y.result = omega (arith, t.0, y.ensures.0) in
    let m = left_more xs l.x l.id-index y.result in-part y.ensures.0 lo y.ensures.1 in
    record {
      low_is = lo;
      more = m;
      after = subst (λ (n : ℕ). Asc (suc n) (places_from xs (l.id-index + 1))) (sym y.ensures.0) t.1;
      fits =
          let r = room _ _ _ _ _ _ l.invariant.1 (span (y.result - l.x) l.x) _ m (whole_fits (goal.at.After-place_of-y c).Start) in
          omega (arith, r, span_long (y.result - l.x) l.x);
    }

pub put_span-requires : goal.put_span-requires
put_span-requires c =
    ((next (goal.at.put_span-requires c).After-place_of-y).fits, omega (arith, (next (goal.at.put_span-requires c).After-place_of-y).low_is, c.place_of-y.ensures.1))

pub loop-id-preserved : goal.loop-id-preserved
loop-id-preserved c =
    let l = c.loop-id in
    let y : ℕ = c.place_of-y.result in (
      omega arith,
      part_more _ _ _ _ _ _ l.invariant.1 _ _ (span (y - l.x) l.x) _ (next (goal.at.loop-id-preserved c).After-place_of-y).more c.put_span.ensures
          (omega (arith, span_long (y - l.x) l.x)),
      subst (λ (n : ℕ). Asc n (places_from c.args.part.now (l.id-index + 1))) (sym (add-one y)) (next (goal.at.loop-id-preserved c).After-place_of-y).after,
      omega (arith, c.place_of-y.ensures.1),
    )

pub put_span-requires-2 : goal.put_span-requires-2
put_span-requires-2 c =
    let l = c.loop-id in
    let xs = c.args.part.now in
    let e = left_last xs l.x l.id-index (omega arith) in (
      omega (
        arith,
        c.requires.1,
        length_shorts_bytes (missing 65536 0 (places_from xs 0)),
        l.invariant.1.next,
        l.invariant.1.kept,
        ap length e,
        span_long (65536 - l.x) l.x,
      ),
      omega (arith, l.invariant.3),
    )

pub returns : goal.returns
returns c =
    let l = c.loop-id in
    let xs = c.args.part.now in
    c.put_span-2.ensures ∙ ap (sets l.out l.i) (sym (left_last xs l.x l.id-index (omega arith))) ∙ l.invariant.1.same

pub loop-id-init : goal.loop-id-init
loop-id-init c = (omega arith, begun _ _ _ _ refl, c.requires.0.ascending, omega arith)

pub overflow_sub-n : goal.overflow_sub-n
overflow_sub-n c = (next c).low_is

pub overflow_mul-i : goal.overflow_mul-i
overflow_mul-i c = omega (arith, c.place_of-y.ensures.1)

pub overflow_add-i : goal.overflow_add-i
overflow_add-i c = omega (arith, (next (goal.at.overflow_add-i c).After-place_of-y).fits, c.loop-id.invariant.1.kept)

pub overflow_add-x : goal.overflow_add-x
overflow_add-x c = omega (arith, c.place_of-y.ensures.1)

pub overflow_sub-n-2 : goal.overflow_sub-n-2
overflow_sub-n-2 c = omega (arith, c.loop-id.invariant.3)
