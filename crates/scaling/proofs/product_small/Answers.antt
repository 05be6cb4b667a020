-- `scaling::product_small` meets its contract. Assumes nothing.
use Rattle.format.specs.Kit.{◌≡◌, ℕ, arith, mul-le-mul_left, mul-one, ltb-true}
use Rattle.scaling.proofs.Guess.{product_lt}
use Rattle.scaling.proofs.product_small.Goals as goal

pub returns-then-divisor-le1 : goal.returns-then-divisor-le1
returns-then-divisor-le1 c = λ e.
    let a = c.args in
    omega (arith, mul-le-mul_left a.stored c.if-divisor-le1.true, mul-one a.stored)

pub returns-then-stored-lt-SMALL : goal.returns-then-stored-lt-SMALL
returns-then-stored-lt-SMALL c = λ e. product_lt _ _ c.if-stored-lt-SMALL.true (ltb-true _ _ e)

pub returns : goal.returns
returns c = λ e. absurd (let z : ◌≡◌ {A = ℕ} 0 1 = cc in omega arith)
