-- Division by a product and a test. Assumes nothing.
use Rattle.std.specs.Prelude.{◌*◌, ◌^◌, ◌≤◌}
use Rattle.format.specs.Kit.{ℕ}

-- m is the least number above 2^32 / d, or 0: so d times a guess by m cannot wrap. That the guess is the quotient is tested each time.
pub record Reciprocal (d m : ℕ) : Type 0 where
  pub product : m * d ≤ 2 ^ 33
