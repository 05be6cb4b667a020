-- `pair_at::held_in` meets its contract. Assumes nothing.
use Rattle.format.specs.Kit.{◌≡◌, ap, ◌∙◌, ℕ, ◌+◌, ◌*◌, ◌≤◌, arith}
use Rattle.format.specs.Bytes.{low_at}
use Rattle.pair_at.specs.Held.{number_ok}
use Rattle.pair_at.proofs.FromEntry.{fails_number, no_room, ordinal_before, ordinal_after, is_held}
use Rattle.pair_at.proofs.held_in.Goals as goal
use Rattle.pair_at.proofs.held_in.Goals.{After-size-count, In_ok-number}

-- the number passes
passed : (c : In_ok-number) → let a = c.args in let t = c.entry_at-e.result.start in
    number_ok a.s.now a.q.entries a.q.jumps c.last_up_to-b.result t × (c.in_ok-number.number ≡ low_at 2 a.s.now t)
    × (t + 4 ≤ a.q.entries) × (c.in_ok-number.number ≤ 32765)
passed c = c.in_ok-number.ensures

counted : (c : After-size-count)
    → let a = c.args in
    c.size-count.result ≡ low_at 2 a.s.now (c.entry_at-e.result.start + 2) + 1
counted c = c.size-count.ensures ∙ ap (λ (x : ℕ). x + 1) c.short_at.ensures.0

pub returns-in_err-number : goal.returns-in_err-number
returns-in_err-number c =
    let b = c.last_up_to-b in
    let e = c.entry_at-e in
    rw c.from_residual.ensures (fails_number c.args.s.now c.args.q c.args.ordinal b.result (b.ensures.is_last (λ j. low_at 4 c.args.s.now (c.args.q.entries + 8 * j)) (λ j r h x. x)) e.result e.ensures c.requires.1
    c.in_err-number.ensures)

pub returns-in_err-block : goal.returns-in_err-block
returns-in_err-block c =
    let b = c.last_up_to-b in
    let e = c.entry_at-e in
    rw c.from_residual-in_err-block.ensures (no_room c.args.s.now c.args.q c.args.ordinal b.result (b.ensures.is_last (λ j. low_at 4 c.args.s.now (c.args.q.entries + 8 * j)) (λ j r h x. x)) e.result e.ensures c.requires.1
    (passed (goal.at.returns-in_err-block c).In_ok-number).0 _
    (counted (goal.at.returns-in_err-block c).After-size-count) c.kind_of-kind.result
    c.in_err-block.ensures)

pub returns-then-ordinal-block : goal.returns-then-ordinal-block
returns-then-ordinal-block c =
    let b = c.last_up_to-b in
    let e = c.entry_at-e in
    ordinal_before c.args.s.now c.args.q c.args.ordinal b.result (b.ensures.is_last (λ j. low_at 4 c.args.s.now (c.args.q.entries + 8 * j)) (λ j r h x. x)) e.result e.ensures c.requires.1
    (passed (goal.at.returns-then-ordinal-block c).In_ok-number).0 _
    (counted (goal.at.returns-then-ordinal-block c).After-size-count) _ c.kind_of-kind.ensures _
    c.in_ok-block.ensures c.if-ordinal-block.true

pub returns-then-block-long : goal.returns-then-block-long
returns-then-block-long c =
    let b = c.last_up_to-b in
    let e = c.entry_at-e in
    ordinal_after c.args.s.now c.args.q c.args.ordinal b.result (b.ensures.is_last (λ j. low_at 4 c.args.s.now (c.args.q.entries + 8 * j)) (λ j r h x. x)) e.result e.ensures c.requires.1
    (passed (goal.at.returns-then-block-long c).In_ok-number).0 _
    (counted (goal.at.returns-then-block-long c).After-size-count) _
    c.kind_of-kind.ensures _
    c.in_ok-block.ensures
    (omega (arith, c.if-block-long.true, c.long.ensures))

pub returns : goal.returns
returns c =
    let b = c.last_up_to-b in
    let e = c.entry_at-e in
    let w = passed (goal.at.returns c).In_ok-number in
    is_held c.args.s.now c.args.q c.args.ordinal b.result (b.ensures.is_last (λ j. low_at 4 c.args.s.now (c.args.q.entries + 8 * j)) (λ j r h x. x)) e.result e.ensures c.requires.1 w.0 _
    (counted (goal.at.returns c).After-size-count) _
    c.kind_of-kind.ensures _
    c.in_ok-block.ensures
    c.in_ok-number.number w.1 w.3
    (omega (
      arith,
      c.size-count.ensures,
      c.short_at.ensures.1,
    )) c.requires.0
    c.if-ordinal-block.false (omega (arith, c.if-block-long.false, c.long.ensures))

pub short_at-requires : goal.short_at-requires
short_at-requires c = omega (arith, (passed c).2, c.requires.0.entries)

pub overflow_add-block : goal.overflow_add-block
overflow_add-block c = let g = c.in_ok-block.ensures in
    let l : c.in_ok-block.block.ordinal + c.in_ok-block.block.count
    ≤ c.args.q.count = rw
    g.same g.last in
    omega (
      arith,
      l,
      c.long.ensures,
      c.requires.0.count,
    )
