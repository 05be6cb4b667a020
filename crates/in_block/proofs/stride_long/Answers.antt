-- `in_block::stride_long` meets its contract. Assumes nothing.
use Rattle.format.specs.Kit.{◌≡◌, sym, ap, ◌∙◌, ℕ, ◌*◌, ◌/◌, ◌^◌, ◌≤◌, arith}
use Rattle.format.specs.LookUp.{stride_long}
use Rattle.in_block.proofs.Strides.{long_none, long_some, long_in}
use Rattle.in_block.proofs.stride_long.Goals as goal
use Rattle.in_block.proofs.stride_long.Goals.{After-stride}

-- the product is the first long of the stride, which is no further than the place's own
first : (c : After-stride)
    → let a = c.args in
    let f = a.r / 2 ^ a.p * c.stride.result in (f ≡ stride_long a.p a.r) × (f ≤ a.r / 64)
first c =
    let e = ap (λ (x : ℕ). c.args.r / 2 ^ c.args.p * x) c.stride.ensures.0 in
    let n = c.if-p-eq0.false in
    (e ∙ sym (long_some c.args.p c.args.r n), omega (arith, e, long_in c.args.p c.args.r c.requires.0 n))

pub returns-then-p-eq0 : goal.returns-then-p-eq0
returns-then-p-eq0 c = (sym (long_none _ _ c.if-p-eq0.true), omega arith)

pub returns : goal.returns
returns c = first c
