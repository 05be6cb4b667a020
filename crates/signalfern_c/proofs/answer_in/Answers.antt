-- `signalfern_c::answer_in` meets its contract. Assumes nothing.
use Rattle.format.specs.Kit.{ap, ◌∙◌}
use Rattle.format.specs.Opening.{Opened}
use Rattle.format.specs.LookUp.{look_up_in, step_probes}
use Rattle.answers.specs.Words.{answer_words}
use Rattle.signalfern_c.proofs.answer_in.Goals as goal

pub returns : goal.returns
returns c =
    let a = c.args in
    let l = c.look_up_in-told.ensures in
    c.put_answer.ensures _ l.probes ∙ ap (answer_words _) l.answers
    ∙ ap (λ (x : Opened). answer_words (step_probes a.lent.now.now x a.id) (look_up_in a.lent.now.now x a.id))
    c.column_in.ensures
