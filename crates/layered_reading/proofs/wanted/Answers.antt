-- `layered_reading::wanted` meets its contract. Assumes nothing.
use Rattle.format.specs.Kit.{◌+◌, ◌*◌, ◌/◌, ◌≤◌, mul-le-mul, div-le_self, arith}
use Rattle.layered_reading.proofs.wanted.Goals as goal

pub overflow_mul-count : goal.overflow_mul-count
overflow_mul-count c =
    let a = c.args in
    let most : a.count * a.want ≤ 512 * 512 = mul-le-mul {n₁ = a.count} {m₁ = a.want} {n₂ = 512} {m₂ = 512} (omega (arith, c.requires)) (omega (arith, c.requires)) in
    omega (arith, most)

pub overflow_add-count : goal.overflow_add-count
overflow_add-count c =
    let a = c.args in
    let most : a.count * a.want ≤ 512 * 512 = mul-le-mul {n₁ = a.count} {m₁ = a.want} {n₂ = 512} {m₂ = 512} (omega (arith, c.requires)) (omega (arith, c.requires)) in
    omega (arith, most, div-le_self (a.count * a.want / 2) (a.i / 2 + 1))
