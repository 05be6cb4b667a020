-- A header number read at once. Assumes nothing.
use Rattle.format.specs.Kit.{◌≡◌, sym, ap₂, ◌∙◌, List, ℕ, ◌+◌, ◌≤◌, arith, drop}
use Rattle.format.specs.HeaderNumbers.{read_number}
use Rattle.header_numbers.specs.Read.{number_of, number_is}
use Rattle.header_numbers.specs.Quick.{Quick}
use Rattle.header_numbers.specs.declared.Brief.{Brief}
use Rattle.std.specs.declared.result.Result.{Result}
use Rattle.header_numbers.specs.declared.Number.{Number}
use Rattle.header_numbers.specs.declared.NumberFault.{NumberFault}

pub quick_none : {s : List ℕ} {at : ℕ} {r : Brief} → r.len ≡ 0 → Quick s at r
quick_none e = record { read = λ n. absurd (n e); few = omega (arith, e) }

-- the number v, which took k bytes and ended at p
pub quick_is : {s : List ℕ} {at v p : ℕ} {r : Brief} (k : ℕ) → number_of at (read_number (drop at s)) ≡ number_is v p → k ≤ 5 → r.value ≡ v → r.len ≡ k
    → p ≡ at + k → Quick s at r
quick_is {at = at} {v = v} {p = p} {r = r} k t h e f q =
    let b : p ≡ at + r.len = omega (arith, q, f) in
    record { read = λ n. t ∙ ap₂ {C = Result Number NumberFault} (λ (x y : ℕ). number_is x y) (sym e) b; few = omega (arith, f, h) }
