-- What a `?` passes on of a call that is refused: the refusal. Assumes nothing.
use Rattle.std.specs.Prelude.{◌≡◌, Ok, Err, IsErrAnd}
use Rattle.std.specs.declared.result.Result.{Result}
use Rattle.format.specs.Kit.{ap}

pub passed_on : {T E : Type 0} (r : Result T E) (why : E) → IsErrAnd r (λ e. e ≡ why) → r ≡ Err why
passed_on (Ok x) why h = absurd h
passed_on (Err e) why h = ap Err h
