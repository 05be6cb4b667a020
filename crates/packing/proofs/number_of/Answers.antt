-- `packing::number_of` meets its contract. Assumes nothing.
use Rattle.format.specs.Kit.{◌≡◌, refl, ap, ◌∙◌, ℕ, ◌+◌, ◌-◌, ◌*◌, ◌/◌, ◌%◌, ◌^◌, arith, length}
use Rattle.format.specs.Bits.{bit_at, gather}
use Rattle.laws.proofs.Bits.{bit_at_lt}
use Rattle.packing.specs.Turned.{turned}
use Rattle.packing.proofs.Swap.{turned_low}
use Rattle.packing.proofs.Touched.{by_ends}
use Rattle.packing.proofs.number_of.Goals as goal

pub returns : goal.returns
returns c s fits len e =
    let a = c.args in
    let k : ℕ = a.e.k in
    let m : ℕ = a.n - k in
    let d : 8 * (8 - k) ≡ 64 - 8 * k = omega (arith, e.few) in
    let at_back : length s - k ≡ m = omega arith in
    let front = c.swapped.ensures ∙ ap (turned 8) e.front
    ∙ turned_low k (8 - k) 8 s 0 fits (omega (arith, e.inside)) (omega (arith, e.few))
    ∙ ap (λ (j : ℕ). gather (bit_at s) 0 (8 * k) * 2 ^ j) d in
    let back = c.swapped-2.ensures ∙ ap (turned 8) (rw at_back at e.back)
    ∙ turned_low k (8 - k) 8 s m fits (omega (arith, e.inside)) (omega (arith, e.few))
    ∙ ap (λ (j : ℕ). gather (bit_at s) (m * 8) (8 * k) * 2 ^ j) d in
    let i : ℕ = (64 + 8 * m - a.skip) % 64 in
    by_ends (bit_at s) (bit_at_lt s) a.skip a.w k m (64 - 8 * k) i (64 - a.w) (omega arith) (omega arith) e.some
    (omega (arith, e.all)) (omega (arith, e.inside)) (omega (arith, e.few)) refl (omega arith)
    (ap (λ (x : ℕ). x * 2 ^ a.skip % 2 ^ 64) front) (ap (λ (x : ℕ). x / 2 ^ i) back) c.met.ensures
