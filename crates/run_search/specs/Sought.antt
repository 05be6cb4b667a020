-- What a search among values found, as the question's answer. Assumes nothing.
use Rattle.format.specs.Kit.{ℕ, Option, some}
use Rattle.format.specs.Refusals.{Outcome, done}
use Rattle.std.specs.Prelude.{Some, None, Ok, Err}
use Rattle.std.specs.declared.option.Option as Op
use Rattle.std.specs.declared.result.Result.{Result}
use Rattle.answers.specs.declared.Refusal as Re
use Rattle.answers.specs.Replies.{refused_as}

-- where nothing is found, `more` is what the values after them give
abbrev pub found_or : Result (Op.Option ℕ) Re.Refusal → Outcome (Option ℕ) → Outcome (Option ℕ)
found_or (Ok (Some i)) more = done (some i)
found_or (Ok None) more = more
found_or (Err why) more = refused_as why
