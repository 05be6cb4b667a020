-- `boundary::layers::put_underneath` meets its contract. Assumes nothing.
use Rattle.format.specs.Kit.{arith}
use Rattle.boundary.proofs.Layering.{refusal_told, answer_told}
use Rattle.boundary.proofs.layers.put_underneath.Goals as goal

pub returns-then-told-gt1 : goal.returns-then-told-gt1
returns-then-told-gt1 c n below e a = refusal_told _ n _ below e c.if-told-gt1.true

pub returns : goal.returns
returns c n below e a = answer_told _ n _ below e a (omega (arith, c.if-told-gt1.false))
