-- `low_packing::number_of` meets its contract. Assumes nothing.
use Rattle.format.specs.Kit.{◌≡◌, ap, ◌∙◌, ℕ, ◌-◌, ◌/◌, ◌%◌, ◌^◌, arith, length}
use Rattle.low_packing.proofs.Words.{by_ends}
use Rattle.low_packing.proofs.number_of.Goals as goal

pub returns : goal.returns
returns c s fits len e =
    let a = c.args in
    let k : ℕ = a.e.k in
    let m : ℕ = a.n - k in
    let at_back : length s - k ≡ m = omega arith in
    c.part.ensures
    ∙ ap (λ (x : ℕ). x / 2 ^ a.skip % 2 ^ a.w)
    (by_ends s k m a.n _ _ fits len (omega arith) (omega (arith, e.all)) (omega arith) e.front (rw at_back at e.back))
