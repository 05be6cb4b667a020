-- `scaling::divisor::reciprocal` meets its contract. Assumes nothing.
use Rattle.format.specs.Kit.{ℕ, ◌/◌, add-mul, one-mul, arith, div-le_self, div-add-mod'}
use Rattle.scaling.proofs.divisor.reciprocal.Goals as goal

pub overflow_add-result : goal.overflow_add-result
overflow_add-result c = omega (arith, div-le_self 4294967296 c.args.d)

pub returns : goal.returns
returns c =
    let d : ℕ = c.args.d in
    let q : ℕ = 4294967296 / d in
    record { product = omega (arith, add-mul q 1 d, one-mul d, div-add-mod' 4294967296 d) }
