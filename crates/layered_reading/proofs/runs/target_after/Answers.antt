-- `layered_reading::runs::target_after` meets its contract. Assumes nothing.
use Rattle.format.specs.Kit.{sym, ap, ◌∙◌, ℕ, ◌+◌, arith}
use Rattle.layered_reading.proofs.Growing.{no_run, some_run}
use Rattle.layered_reading.proofs.runs.target_after.Goals as goal

pub bounds-ids-k : goal.bounds-ids-k
bounds-ids-k c = omega (arith, c.if-m-k.true, c.requires.1)

pub returns-then-m-k : goal.returns-then-m-k
returns-then-m-k c =
    let a = c.args in
    ap (λ (n : ℕ). n + 1) c.wide32.ensures.0 ∙ sym (some_run a.target a.m a.k a.ids.now c.if-m-k.true)

pub returns : goal.returns
returns c =
    let a = c.args in
    sym (no_run a.target a.m a.k a.ids.now (omega (arith, c.if-m-k.false)))

pub overflow_sub-k : goal.overflow_sub-k
overflow_sub-k c = omega (arith, c.if-m-k.true)

pub offset_bounds-ids-k : goal.offset_bounds-ids-k
offset_bounds-ids-k c = omega (arith, c.if-m-k.true, c.requires.1)

pub overflow_add-result : goal.overflow_add-result
overflow_add-result c = omega (arith, c.wide32.ensures.1)
