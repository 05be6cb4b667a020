-- `scaling::divisor::quotient` meets its contract: a guess is tested. Assumes nothing.
use Rattle.format.specs.Kit.{sym, ap, ◌∙◌, ℕ, ◌/◌, div-one}
use Rattle.scaling.proofs.Guess.{guess_fits, guess_is}
use Rattle.scaling.proofs.divisor.quotient.Goals as goal

pub returns-then-d-eq1 : goal.returns-then-d-eq1
returns-then-d-eq1 c =
    let x : ℕ = c.args.x in
    sym (ap (λ (g : ℕ). x / g) c.if-d-eq1.true ∙ div-one x)

pub overflow_mul-q : goal.overflow_mul-q
overflow_mul-q c =
    record { fits = rw c.guessed-q.ensures.0 (guess_fits c.args.x c.args.m c.args.d c.requires.1) }

pub returns-then-q-d : goal.returns-then-q-d
returns-then-q-d c = guess_is _ _ _ c.requires.0 c.if-q-d.true
