-- `table_check::mark_codes` meets its contract. The loop's invariant: the codes from i on are still to be looked at, and code i stands at the
use Rattle.format.specs.Kit.{◌≡◌, sym, ◌∙◌, ℕ, ◌+◌, ◌%◌, ◌<◌, arith, bit_and, and_mask, length, get_or}
use Rattle.format.specs.Bits.{unpacked}
use Rattle.laws.proofs.Cases.{false_true}
use Rattle.laws.proofs.Bits.{length_unpacked, fetched_is}
use Rattle.packing.proofs.Join.{place_next}
use Rattle.table_values.proofs.Facts.{high_width, high_fetch}
use Rattle.table_check.proofs.Codes.{counting_stop, counting_more, counting_end}
use Rattle.table_check.proofs.mark_codes.Goals as goal
use Rattle.table_check.proofs.mark_codes.Goals.{After-next_of-code, In-loop-i}

-- code i
code : (c : After-next_of-code) → let a = c.args in
    get_or (unpacked a.w a.n a.codes.now) c.loop-i.i 0 ≡ c.next_of-code.result
code c =
    let a = c.args in
    fetched_is a.w a.n a.codes.now c.loop-i.i c.loop-i-test.true ∙ sym (c.next_of-code.ensures ∙ high_fetch _ _ _)

more : (c : In-loop-i) → let a = c.args in
    c.loop-i.i < length (unpacked a.w a.n a.codes.now)
more c =
    let a = c.args in
    omega (arith, length_unpacked a.w a.n a.codes.now, c.loop-i-test.true)

pub returns-then-code-t : goal.returns-then-code-t
returns-then-code-t c = (
  counting_stop c.loop-i.invariant.0 c.next_of-code.result (more (goal.at.returns-then-code-t c).In-loop-i) (code (goal.at.returns-then-code-t c).After-next_of-code) c.if-code-t.true,
  λ e. false_true e,
)

pub loop-i-preserved : goal.loop-i-preserved
loop-i-preserved c =
    let w : ℕ = c.args.w in
    let m : bit_and (c.loop-i.skip + w) 7 ≡ (c.loop-i.skip + w) % 8 = and_mask (c.loop-i.skip + w) 3 in (
      counting_more c.loop-i.invariant.0 c.next_of-code.result (more (goal.at.loop-i-preserved c).In-loop-i) (code (goal.at.loop-i-preserved c).After-next_of-code) c.if-code-t.false,
      rw m (place_next c.loop-i.i w c.loop-i.at c.loop-i.skip c.loop-i.invariant.1),
      omega (arith, m),
    )

pub returns : goal.returns
returns c =
    let a = c.args in
    let e = counting_end c.loop-i.invariant.0 (omega (arith, length_unpacked a.w a.n a.codes.now, c.loop-i-test.false)) in
    (e.0, λ t. e.1)

pub next_of-code-requires : goal.next_of-code-requires
next_of-code-requires c = (high_width _ c.requires.0, c.loop-i-test.true, c.requires.1, c.loop-i.invariant.1, c.loop-i.invariant.2)
