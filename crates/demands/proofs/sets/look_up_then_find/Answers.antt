-- `demands::sets::look_up_then_find` meets its contract. Assumes nothing.
use Rattle.format.specs.Kit.{sym, ap, ◌∙◌}
use Rattle.format.specs.Refusals.{Outcome, done, and_then}
use Rattle.format.specs.LookUp.{Look}
use Rattle.format.specs.SetCalls.{as_member}
use Rattle.demands.proofs.Answers.{members_alike}
use Rattle.demands.proofs.sets.look_up_then_find.Goals as goal

pub returns : goal.returns
returns c =
    let a = c.args in
    λ m n x y e.
    ap (λ (o : Outcome Look). and_then o (λ (k : Look). done (as_member k))) c.look_up-answer.ensures.answers
    ∙ members_alike a.bytes.now a.set.now m n x y e a.id ∙ sym c.set_find-member.ensures
