-- `section_check::judge_blocks` meets its contract. The loop's invariant: the judge from the section's start is the judge from here, with the
use Rattle.format.specs.Kit.{◌≡◌, refl, sym, ap, ◌∙◌, ℕ, suc, ◌+◌, arith, length}
use Rattle.std.proofs.lemmas.Result.{err_from_is_err_and}
use Rattle.format.specs.Limits.{end_number}
use Rattle.format.specs.Ids.{data_bytes, block_bytes}
use Rattle.format.specs.Orders.{fixed_at}
use Rattle.format.specs.Judge.{judge_from}
use Rattle.answers.specs.Replies.{order_of}
use Rattle.laws.proofs.Sizes.{block_total}
use Rattle.section_check.specs.Reasons.{block_reason, Turn, Passed}
use Rattle.section_check.proofs.Turns.{some_reason, turn_bad_end, turn_end, turn_bad, turn_on, turn_short, sound}
use Rattle.section_check.proofs.judge_blocks.Goals as goal
use Rattle.section_check.proofs.judge_blocks.Goals.{After-data_bytes, In_default-test_wide, In_ok-w, Then-k-eq-END}

-- ---- where the sparse blocks were passed
passed : (k : In_ok-w)
    → let a = k.args in
    let l = k.loop-here.here in
    let w = k.in_ok-w.w in
    Passed (order_of a.order) a.p a.s.now l.at l.count l.next w.at w.count w.next
passed k = k.in_ok-w.ensures

here : (k : In_ok-w)
    → let a = k.args in
    let w = k.in_ok-w.w in
    Turn (judge_from (suc (length a.s.now)) (order_of a.order) a.p a.s.now 0 0 0)
    (order_of a.order) a.p a.s.now w.at w.count w.next
here k = (passed k).on _ k.loop-here.invariant.0

-- the end block's number was read
at_end : (c : Then-k-eq-END)
    → let a = c.args in
    fixed_at (order_of a.order) 2 a.s.now c.in_ok-w.w.at ≡ end_number
at_end c = sym c.short_in-k.ensures.0 ∙ c.if-k-eq-END.true

-- ---- the block there
-- it has no fault
no_fault : (c : In_default-test_wide)
    → let a = c.args in
    let w = c.in_ok-w.w in
    block_reason (order_of a.order) a.p a.s.now w.at w.next c.short_in-k.result
    (c.short_in-c.result + 1) ≡ 0
no_fault c =
    let a = c.args in
    let w = c.in_ok-w.w in
    ap (block_reason (order_of a.order) a.p a.s.now w.at w.next c.short_in-k.result)
    (sym c.size-n.ensures)
    ∙ sym (c.in_default-test_wide.ensures (order_of a.order))

-- where the next one stands
next_at : (c : After-data_bytes)
    → let a = c.args in
    let b = c.in_ok-w.w.at in b + 4 + c.data_bytes.result ≡ b + block_bytes a.p (c.short_in-c.result + 1)
next_at c =
    let p = c.args.p in
    let x = c.short_in-c.result + 1 in
    omega (arith, c.data_bytes.ensures.0, ap (data_bytes p) c.size-n.ensures, block_total p x)

pub returns-in_err-w : goal.returns-in_err-w
returns-in_err-w c =
    let p = err_from_is_err_and c.from_residual.result c.from_residual.ensures.1 in
    rw (p.1, p.2) (c.in_err-w.ensures _ c.loop-here.invariant.0)

pub returns-in-Err : goal.returns-in-Err
returns-in-Err c =
    let h = (passed (goal.at.returns-in-Err c).In_ok-w).head in
    turn_bad_end _ _ _ _ _ _ _ (here (goal.at.returns-in-Err c).In_ok-w) (omega arith) h _ (at_end (goal.at.returns-in-Err c).Then-k-eq-END) c.in-Err.ensures (some_reason _)

pub returns-then-k-eq-END : goal.returns-then-k-eq-END
returns-then-k-eq-END c =
    let h = (passed (goal.at.returns-then-k-eq-END c).In_ok-w).head in
    turn_end _ _ _ _ _ _ _ (here (goal.at.returns-then-k-eq-END c).In_ok-w) (omega arith) h 0 (at_end (goal.at.returns-then-k-eq-END c).Then-k-eq-END) c.in_default.ensures refl

pub returns-in-Err-test_wide : goal.returns-in-Err-test_wide
returns-in-Err-test_wide c =
    let h = (passed (goal.at.returns-in-Err-test_wide c).In_ok-w).head in
    turn_bad _ _ _ _ _ _ _ (here (goal.at.returns-in-Err-test_wide c).In_ok-w) (omega arith) h _ _ c.short_in-k.ensures.0 c.if-k-eq-END.false
    (c.size-n.ensures ∙ ap (λ (x : ℕ). x + 1) c.short_in-c.ensures.0) _ (c.in-Err-test_wide.ensures _)
    (some_reason _)

pub loop-here-preserved : goal.loop-here-preserved
loop-here-preserved c =
    let r = no_fault (goal.at.loop-here-preserved c).In_default-test_wide in
    let h = (passed (goal.at.loop-here-preserved c).In_ok-w).head in
    let w = sound _ _ _ _ _ _ _ r in
    let n = next_at (goal.at.loop-here-preserved c).After-data_bytes in (
      turn_on _ _ _ _ _ _ _ (here (goal.at.loop-here-preserved c).In_ok-w) (omega arith) h _ _ c.short_in-k.ensures.0 c.if-k-eq-END.false
          (ap (λ (y : ℕ). y + 1) c.short_in-c.ensures.0) _ n r,
      omega arith,
      omega (arith, (passed (goal.at.loop-here-preserved c).In_ok-w).few, w.after, c.short_in-c.ensures.1),
      omega arith,
    )

pub returns : goal.returns
returns c = let l = c.loop-here in turn_short _ _ _ _ _ _ _ l.invariant.0 l.invariant.1 (omega arith)
