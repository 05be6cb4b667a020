-- `section_check::sparse_blocks` meets its contract. The loop's invariant: whatever is the judge from the start is the judge from here, since a turn
use Rattle.format.specs.Kit.{◌≡◌, sym, ap, ◌∙◌, ℕ, ◌+◌, arith}
use Rattle.format.specs.Ids.{data_bytes, block_bytes}
use Rattle.answers.specs.Replies.{order_of}
use Rattle.laws.proofs.Sizes.{block_total}
use Rattle.section_check.specs.Reasons.{block_reason}
use Rattle.section_check.proofs.Turns.{some_reason, turn_bad, turn_on, turn_short, sound}
use Rattle.section_check.proofs.sparse_blocks.Goals as goal
use Rattle.section_check.proofs.sparse_blocks.Goals.{After-data_bytes, In_default}

-- the block that was read has no fault
no_fault : (c : In_default)
    → let a = c.args in
    let l = c.loop-here in
    block_reason (order_of a.order) a.p a.s.now l.here.at l.here.next c.short_in-k.result
    (c.short_in-c.result + 1) ≡ 0
no_fault c =
    let a = c.args in
    let l = c.loop-here in
    ap (block_reason (order_of a.order) a.p a.s.now l.here.at l.here.next c.short_in-k.result) (sym c.size-n.ensures)
    ∙ sym c.in_default.ensures

-- where the next block stands
next_at : (c : After-data_bytes)
    → let a = c.args in
    let l = c.loop-here in
    l.here.at + 4 + c.data_bytes.result ≡ l.here.at + block_bytes a.p (c.short_in-c.result + 1)
next_at c =
    let p = c.args.p in
    let x = c.short_in-c.result + 1 in
    omega (arith, c.data_bytes.ensures.0, ap (data_bytes p) c.size-n.ensures, block_total p x)

pub returns-in-Err : goal.returns-in-Err
returns-in-Err c whole t =
    let l = c.loop-here in
    let n = c.size-n.ensures ∙ ap (λ (x : ℕ). x + 1) c.short_in-c.ensures.0 in
    turn_bad whole _ _ _ _ _ _ (l.invariant.0 whole t) l.invariant.1 (omega arith) _ _ c.short_in-k.ensures.0 c.if-k-eq-END.false n _
    c.in-Err.ensures (some_reason _)

pub loop-here-preserved : goal.loop-here-preserved
loop-here-preserved c =
    let l = c.loop-here in
    let r = no_fault (goal.at.loop-here-preserved c).In_default in
    let w = sound _ _ _ _ _ _ _ r in
    let n = next_at (goal.at.loop-here-preserved c).After-data_bytes in (
      λ whole t.
          turn_on whole _ _ _ _ _ _ (l.invariant.0 whole t) l.invariant.1 (omega arith) _ _ c.short_in-k.ensures.0 c.if-k-eq-END.false
          (ap (λ (y : ℕ). y + 1) c.short_in-c.ensures.0) _ n r,
      omega arith,
      omega arith,
      omega arith,
      omega arith,
    )

pub returns : goal.returns
returns c whole t = let l = c.loop-here in turn_short whole _ _ _ _ _ _ (l.invariant.0 whole t) l.invariant.1 (omega arith)
