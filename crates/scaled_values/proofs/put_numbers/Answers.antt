-- `scaled_values::put_numbers` meets its contract. The loop's invariant, that the first i stored numbers are written or wait, holds since a turn
use Rattle.format.specs.Kit.{◌≡◌, ap, ◌∙◌, ℕ, ◌*◌, ◌^◌, ◌≤◌, ◌<◌, arith, ℤ, pos, length, get_or}
use Rattle.format.specs.Limits.{max_width}
use Rattle.format.specs.Values.{stored_with}
use Rattle.laws.proofs.Values.{length_stored_with}
use Rattle.packings.proofs.Packings.{sound_of, gather_is}
use Rattle.packing.proofs.Stream.{streamed_none, streamed_acc, streamed_room, streamed_more, streamed_end}
use Rattle.signed.specs.Sign.{biased}
use Rattle.signed.proofs.Signs.{read_back}
use Rattle.scaling.proofs.Spread.{low_le}
use Rattle.scaled_values.proofs.Store.{stored_at, width_narrow_by, stored_small, packed_is}
use Rattle.scaled_values.proofs.put_numbers.Goals as goal
use Rattle.scaled_values.proofs.put_numbers.Goals.{After-biased, After-quotient-x, In-loop-v, Start}

-- there is room for all stored numbers, and their width is one
room : (s : Start) → length (stored_with s.args.divisor s.args.values.now) * s.args.w ≤ 8 * length s.args.out.now
room s = rw (length_stored_with s.args.divisor s.args.values.now) (omega (arith, s.requires.enough))

narrow : (s : Start) → s.args.w ≤ max_width
narrow s = omega (arith, s.requires.width_is, width_narrow_by s.args.order s.args.divisor s.args.values.now s.requires.fit)

-- a turn's value, biased, and the number stored of it
value : (c : After-biased) → c.biased.result ≡ biased (get_or c.args.values.now c.loop-v.v-index (pos 0))
value c =
    let v : ℤ = get_or c.args.values.now c.loop-v.v-index (pos 0) in
    c.biased.ensures ∙ ap biased (read_back v c.biased-arg-1.given)

number : (c : After-quotient-x) → let a = c.args in
    c.quotient-x.result ≡ get_or (stored_with a.divisor a.values.now) c.loop-v.v-index 0
number c =
    c.quotient-x.ensures
    ∙ stored_at c.args.divisor c.args.values.now c.requires.fit c.loop-v.v-index c.loop-v-test.true c.biased.result
    c.args.low (value (goal.at.After-quotient-x c).After-biased) c.requires.low_is

small : (c : After-quotient-x) → let a = c.args in
    get_or (stored_with a.divisor a.values.now) c.loop-v.v-index 0 < 2 ^ a.w
small c =
    stored_small c.args.order c.args.divisor c.args.values.now c.requires.fit c.loop-v.v-index c.args.w c.requires.positive c.requires.width_is
    c.loop-v-test.true

more : (c : In-loop-v) → let a = c.args in c.loop-v.v-index < length (stored_with a.divisor a.values.now)
more c = let a = c.args in omega (arith, length_stored_with a.divisor a.values.now, c.loop-v-test.true)

pub overflow_sub-biased : goal.overflow_sub-biased
overflow_sub-biased c =
    omega (arith, value c, c.requires.low_is, low_le c.args.values.now c.requires.fit c.loop-v.v-index c.loop-v-test.true)

pub quotient-x-requires : goal.quotient-x-requires
quotient-x-requires c =
    (omega (arith, c.requires.positive), c.reciprocal-m.ensures)

pub push-p-requires : goal.push-p-requires
push-p-requires c =
    let law = (sound_of c.args.order).orderly in
    let inv = c.loop-v.invariant in (
      narrow (goal.at.push-p-requires c).Start,
      rw (number (goal.at.push-p-requires c).After-quotient-x) (small (goal.at.push-p-requires c).After-quotient-x),
      inv.held.few,
      streamed_acc law inv,
      streamed_room law inv (more (goal.at.push-p-requires c).In-loop-v) (room (goal.at.push-p-requires c).Start),
    )

pub loop-v-preserved : goal.loop-v-preserved
loop-v-preserved c =
    let push = c.push-p in
    let a = c.args in
    streamed_more (sound_of a.order).orderly c.loop-v.invariant (more (goal.at.loop-v-preserved c).In-loop-v) (small (goal.at.loop-v-preserved c).After-quotient-x) push.new.dst push.auto.dst
    (rw (gather_is a.order, number (goal.at.loop-v-preserved c).After-quotient-x) at push.ensures)

pub finish-requires : goal.finish-requires
finish-requires c =
    let xs = stored_with c.args.divisor c.args.values.now in
    let inv = c.loop-v.invariant in
    let i : c.loop-v.v-index ≡ length xs = omega (arith, length_stored_with c.args.divisor c.args.values.now, inv.inside, c.loop-v-test.false) in
    let fits = room (goal.at.finish-requires c).Start in
    let n : c.loop-v.v-index * c.args.w ≡ length xs * c.args.w = ap (λ (k : ℕ). k * c.args.w) i in
    (inv.held.few, streamed_acc (sound_of c.args.order).orderly inv, omega (arith, inv.held.bits, inv.size))

pub shape_of-out : goal.shape_of-out
shape_of-out c = c.finish.auto.dst ∙ c.loop-v.invariant.size

pub returns : goal.returns
returns c =
    let finish = c.finish in
    let a = c.args in
    let o = a.order in
    streamed_end (sound_of o).orderly c.loop-v.invariant (omega (arith, length_stored_with a.divisor a.values.now, c.loop-v-test.false)) (room (goal.at.returns c).Start)
    finish.new.dst finish.auto.dst (rw (gather_is o) at finish.ensures)
    ∙ packed_is o a.divisor a.values.now _ _

pub loop-v-init : goal.loop-v-init
loop-v-init c = streamed_none (sound_of c.args.order).orderly _ _ _
