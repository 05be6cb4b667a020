-- `blocks::stride_ones` meets its contract. Assumes nothing.
use Rattle.format.specs.Kit.{◌≡◌, ap, ◌∙◌, ℕ, ◌-◌, ◌*◌, ◌^◌, arith}
use Rattle.format.specs.LookUp.{ones_from}
use Rattle.laws.proofs.Ones.{ones_more}
use Rattle.laws.proofs.Sizes.{stride_max}
use Rattle.blocks.proofs.Ones.{stride_at, stride_fours}
use Rattle.blocks.proofs.stride_ones.Goals as goal
use Rattle.blocks.proofs.stride_ones.Goals.{Start}

-- the longs that were counted are the stride's
whole : (c : Start) (n r : ℕ)
    → let a = c.args in n ≡ 2 ^ (a.p - 6) → r ≡ ones_from a.s.now a.m n a.first → r ≡ ones_from a.s.now a.m (2 ^ (a.p - 6)) a.first
whole c n r e q = let a = c.args in q ∙ ap (λ (x : ℕ). ones_from a.s.now a.m x a.first) e

pub returns-then-p-eq9 : goal.returns-then-p-eq9
returns-then-p-eq9 c =
    let a = c.args in
    let e = stride_at 9 a.p c.if-p-eq9.true in
    let f = ones_more a.s.now a.m 4 4 a.first in
    (whole (goal.at.returns-then-p-eq9 c).Start 8 _ e (omega (arith, f, c.four_ones.ensures.0, c.four_ones-then-p-eq9.ensures.0)), omega (arith, e))

pub ones_from-requires-2 : goal.ones_from-requires-2
ones_from-requires-2 c =
    let e = stride_fours c.args.p (omega arith) in
    (omega (arith, e, c.requires.2), omega (arith, e, stride_max c.args.p (omega arith)))

pub returns : goal.returns
returns c =
    let e : 4 * c.size.result ≡ 2 ^ (c.args.p - 6) =
    omega (arith, stride_fours c.args.p (omega arith), c.size.ensures, c.pow2.ensures) in
    (whole (goal.at.returns c).Start _ _ e c.ones_from-2.ensures.0, omega (arith, e))
