-- `read_in_block::dense::before_next` meets its contract. Assumes nothing.
use Rattle.format.specs.Kit.{◌≡◌, sym, ◌∙◌, ◌+◌, ◌*◌}
use Rattle.format.specs.LookUp.{stride_long}
use Rattle.read_in_block.proofs.Strides.{at_start, by_long}
use Rattle.read_in_block.proofs.dense.before_next.Goals as goal

-- after the last long

pub returns-then-stride_long-k : goal.returns-then-stride_long-k
returns-then-stride_long-k c =
    let a = c.args in
    λ h.
    c.stride_rank.ensures.0
    ∙ sym (at_start a.p c.requires.0 a.s.now a.t (a.k + 1) (sym c.stride_long.ensures.0 ∙ c.if-stride_long-k.true))

pub returns : goal.returns
returns c =
    let a = c.args in
    let e : stride_long a.p (64 * (a.k + 1)) ≡ a.k + 1 → ⊥ = λ w. c.if-stride_long-k.false (c.stride_long.ensures.0 ∙ w) in
    λ h. c.requires.3 ∙ sym (by_long a.p c.requires.0 a.s.now a.t a.k e)
