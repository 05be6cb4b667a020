-- `signalfern_c::sections::signalfern_judge_section_to` meets its contract. Assumes nothing.
use Rattle.format.specs.Kit.{ap, ◌∙◌}
use Rattle.format.specs.Orders.{Order}
use Rattle.format.specs.Judge.{judge_section}
use Rattle.answers.specs.Words.{judgement_words}
use Rattle.signalfern_c.proofs.sections.signalfern_judge_section_to.Goals as goal

pub returns : goal.returns
returns c =
    let a = c.args in
    c.put_judgement.ensures ∙ ap judgement_words c.judge_section-told.ensures
    ∙ ap (λ (o : Order). judgement_words (judge_section o a.power a.jump_count a.bytes.now)) c.order_in.ensures
