-- `scaling::divisor::unlike` meets its contract. Assumes nothing.
use Rattle.format.specs.Kit.{◌≡◌, sym, ap, ◌∙◌, ℕ, ◌*◌, ◌%◌, ◌<◌, ◌^◌, arith}
use Rattle.laws.proofs.Gcd.{gcd_multiple}
use Rattle.scaling.proofs.Guess.{product_lt, gcd_of_one}
use Rattle.scaling.proofs.divisor.unlike.Goals as goal
use Rattle.scaling.proofs.divisor.unlike.Goals.{After-guessed}

fits : (c : After-guessed) → c.guessed.result * (c.args.g % 2 ^ 32) < 2 ^ 64
fits c = product_lt c.guessed.result (c.args.g % 4294967296) c.guessed.ensures.1 (omega arith)

pub returns : goal.returns
returns c =
    let q : ℕ = c.guessed.result in
    let k : q * (c.args.g % 2 ^ 32) ≡ q * c.args.g = ap (λ (g : ℕ). q * g) (omega (arith, c.requires)) in
    λ z. sym (gcd_multiple c.args.g c.args.x q (omega (arith, k, fits (goal.at.returns c).After-guessed, z, c.wrapping_sub_u64.ensures)))

pub returns-then-g-eq1 : goal.returns-then-g-eq1
returns-then-g-eq1 c _ = sym (gcd_of_one _ _ c.if-g-eq1.true) ∙ sym c.if-g-eq1.true

pub overflow_mul-guessed : goal.overflow_mul-guessed
overflow_mul-guessed c = record { fits = fits c }
