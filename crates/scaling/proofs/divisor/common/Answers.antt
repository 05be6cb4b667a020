-- `scaling::divisor::common` meets its contract: where the guess is the quotient, g divides x. Assumes nothing.
use Rattle.format.specs.Kit.{sym, ◌∙◌}
use Rattle.laws.proofs.Gcd.{gcd_comm, gcd_multiple}
use Rattle.scaling.proofs.Guess.{gcd_of_one, guess_fits}
use Rattle.scaling.proofs.divisor.common.Goals as goal

pub overflow_mul-guessed : goal.overflow_mul-guessed
overflow_mul-guessed c =
    record { fits = rw c.guessed.ensures.0 (guess_fits c.args.x c.args.m c.args.g c.requires) }

pub returns-then-guessed-g : goal.returns-then-guessed-g
returns-then-guessed-g c = gcd_multiple _ _ c.guessed.result (sym c.if-guessed-g.true)

pub returns : goal.returns
returns c = c.gcd.ensures ∙ gcd_comm _ _

pub returns-then-g-eq1 : goal.returns-then-g-eq1
returns-then-g-eq1 c = gcd_of_one _ _ c.if-g-eq1.true
