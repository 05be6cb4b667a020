-- `scaling::divisor::guessed` meets its contract. Assumes nothing.
use Rattle.format.specs.Kit.{refl, ◌*◌, ◌%◌, ◌<◌, ◌^◌, arith}
use Rattle.scaling.proofs.Guess.{product_lt}
use Rattle.scaling.proofs.divisor.guessed.Goals as goal
use Rattle.scaling.proofs.divisor.guessed.Goals.{Start}

fits : (c : Start) → c.args.x % 2 ^ 32 * (c.args.m % 2 ^ 32) < 2 ^ 64
fits c = product_lt (c.args.x % 4294967296) (c.args.m % 4294967296) (omega arith) (omega arith)

pub overflow_mul-result : goal.overflow_mul-result
overflow_mul-result c = record { fits = fits c }

pub returns : goal.returns
returns c = (refl, omega (arith, fits c))
