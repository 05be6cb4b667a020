-- `table_writer::put_codes_by` meets its contract. The loop's invariant: the first i codes are written or wait. Assumes nothing.
use Rattle.format.specs.Kit.{◌≡◌, sym, ap, ◌∙◌, map, ℕ, ◌*◌, ◌^◌, ◌≤◌, ◌<◌, arith, ℤ, pos, length, get_or, mag, length-replicate, drop, ◌++◌}
use Rattle.format.specs.Bits.{packed, packed_bytes, bit_bytes}
use Rattle.format.specs.Table.{code_in, code_width}
use Rattle.laws.proofs.Orders.{packed_by}
use Rattle.laws.proofs.Bits.{high_order, high_orderly}
use Rattle.laws.proofs.Table.{length_codes, codes_at, code_small}
use Rattle.packing.proofs.Stream.{streamed_none, streamed_acc, streamed_room, streamed_more, streamed_end}
use Rattle.signed.specs.Sign.{biased, unbiased}
use Rattle.signed.proofs.Signs.{read_back, unbiased_biased}
use Rattle.table_writer.proofs.put_codes_by.Goals as goal
use Rattle.table_writer.proofs.put_codes_by.Goals.{After-long-in-loop-x, After-size-w, In-loop-x}
use Rattle.table_writer.proofs.put_codes_by.Given.{Over}

-- the width is that of the last code
width_is : (g : Over) (c : After-size-w g) → c.size-w.result ≡ code_width (length c.args.table.now)
width_is g c = c.size-w.ensures ∙ c.code_width.ensures.0 ∙ ap code_width c.long.ensures

narrow : (g : Over) (c : After-size-w g) → c.size-w.result ≤ 8
narrow g c = omega (arith, c.size-w.ensures, c.code_width.ensures.1)

-- there is room for all codes
room : (g : Over) (c : After-size-w g) → let a = c.args in
    length (map (code_in a.table.now) a.values.now) * c.size-w.result ≤ 8 * length a.out.now
room g c =
    rw (length_codes c.args.table.now c.args.values.now, width_is g c) (omega (arith, c.requires.4))

more : (g : Over) (c : In-loop-x g) → let a = c.args in
    c.loop-x.x-index < length (map (code_in a.table.now) a.values.now)
more g c =
    let a = c.args in
    omega (arith, length_codes a.table.now a.values.now, c.loop-x-test.true)

-- a turn's code
code : (g : Over) (c : After-long-in-loop-x g) → let a = c.args in
    c.long-in-loop-x.result ≡ get_or (map (code_in a.table.now) a.values.now) c.loop-x.x-index 0
code g c =
    let a = c.args in
    let us = a.table.now in
    let v : ℤ = get_or a.values.now c.loop-x.x-index (pos 0) in
    let f : mag v < 2 ^ 63 = c.biased-arg-1.given in
    c.long-in-loop-x.ensures ∙ c.place_of-code.ensures.0
    ∙ ap (code_in us) (ap unbiased (c.biased.ensures ∙ ap biased (read_back v f)) ∙ unbiased_biased v f)
    ∙ sym (codes_at us a.values.now c.loop-x.x-index c.loop-x-test.true)

small : (g : Over) (c : In-loop-x g) → let a = c.args in
    get_or (map (code_in a.table.now) a.values.now) c.loop-x.x-index 0 < 2 ^ c.size-w.result
small g c =
    rw (width_is g (goal.at.In-loop-x g c).After-size-w) (code_small c.args.table.now c.args.values.now c.requires.2 c.requires.3 c.loop-x.x-index c.loop-x-test.true)

pub place_of-code-requires : goal.place_of-code-requires
place_of-code-requires g c =
    (omega (arith, c.loop-x.invariant.1, c.requires.5), omega (arith, c.loop-x.invariant.1, c.requires.6), c.requires.2)

pub push-p-requires : goal.push-p-requires
push-p-requires g c =
    let inv = c.loop-x.invariant.0 in (
      omega (arith, narrow g (goal.at.push-p-requires g c).After-size-w),
      rw (code g c) (small g (goal.at.push-p-requires g c).In-loop-x),
      inv.held.few,
      streamed_acc high_orderly inv,
      streamed_room high_orderly inv (more g (goal.at.push-p-requires g c).In-loop-x) (room g (goal.at.push-p-requires g c).After-size-w),
    )

pub loop-x-preserved : goal.loop-x-preserved
unfolding high_order
loop-x-preserved g c =
    let push = c.push-p in (
      streamed_more high_orderly c.loop-x.invariant.0 (more g (goal.at.loop-x-preserved g c).In-loop-x) (small g (goal.at.loop-x-preserved g c).In-loop-x) push.new.dst push.auto.dst (rw (code g (goal.at.loop-x-preserved g c).After-long-in-loop-x) at push.ensures),
      c.place_of-code.auto.guesses ∙ c.loop-x.invariant.1,
    )

pub finish-requires : goal.finish-requires
finish-requires g c =
    let a = c.args in
    let xs = map (code_in a.table.now) a.values.now in
    let inv = c.loop-x.invariant.0 in
    let i : c.loop-x.x-index ≡ length xs = omega (arith, length_codes a.table.now a.values.now, inv.inside, c.loop-x-test.false) in
    let n : c.loop-x.x-index * c.size-w.result ≡ length xs * c.size-w.result = ap (λ (j : ℕ). j * c.size-w.result) i in
    (inv.held.few, streamed_acc high_orderly inv, omega (arith, inv.held.bits, inv.size, room g (goal.at.finish-requires g c).After-size-w))

pub shape_of-out : goal.shape_of-out
shape_of-out g c = c.finish.auto.dst ∙ c.loop-x.invariant.0.size

pub returns : goal.returns
unfolding high_order packed packed_by
returns g c =
    let finish = c.finish in
    let a = c.args in
    let us = a.table.now in
    let vs = a.values.now in
    streamed_end high_orderly c.loop-x.invariant.0 (omega (arith, length_codes us vs, c.loop-x-test.false)) (room g (goal.at.returns g c).After-size-w) finish.new.dst finish.auto.dst
    finish.ensures
    ∙ ap (λ (w : ℕ). packed w (map (code_in us) vs) ++ drop (bit_bytes (length (map (code_in us) vs) * w)) a.out.now) (width_is g (goal.at.returns g c).After-size-w)
    ∙ ap (λ (n : ℕ). packed (code_width (length us)) (map (code_in us) vs) ++ drop (packed_bytes n (code_width (length us))) a.out.now) (length_codes us vs)

pub code_width-requires : goal.code_width-requires
code_width-requires g c = (omega (arith, c.long.ensures, c.requires.0), omega (arith, c.long.ensures, c.requires.1))

pub loop-x-init : goal.loop-x-init
loop-x-init g c = (streamed_none high_orderly _ _ _, length-replicate {A = ℕ} _ 0)
