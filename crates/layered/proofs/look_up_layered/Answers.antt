-- `layered::look_up_layered` meets its contract. Assumes nothing.
use Rattle.format.specs.Kit.{ap, ◌∙◌}
use Rattle.format.specs.Editions.{editions}
use Rattle.format.specs.LookUp.{look_up}
use Rattle.format.specs.Layered.{underneath, on_top, look_up_layered}
use Rattle.answers.proofs.PassedOn.{passed_on}
use Rattle.layered.specs.Answers.{layered_of}
use Rattle.layered.proofs.Layering.{found_there}
use Rattle.layered.proofs.look_up_layered.Goals as goal

pub returns-in_err-top : goal.returns-in_err-top
unfolding look_up_layered
returns-in_err-top c =
    let below = look_up editions c.args.machine.now c.args.id in
    ap layered_of (passed_on c.from_residual.result _ c.from_residual.ensures.1) ∙ c.in_err-top.ensures below
    ∙ ap (λ x. on_top x below) c.answer_from.ensures

pub returns-in_default : goal.returns-in_default
unfolding look_up_layered
returns-in_default c =
    let below = look_up editions c.args.machine.now c.args.id in
    found_there c.in_ok-top.top below _ c.in_default.not-Absent (c.in_ok-top.ensures below) ∙ ap (λ x. on_top x below) c.answer_from.ensures

pub returns : goal.returns
unfolding look_up_layered
returns c =
    let below = look_up editions c.args.machine.now c.args.id in
    c.underneath.ensures ∙ ap (underneath c.in-Absent.correction_words) c.answer_from-2.ensures
    ∙ (rw c.in-Absent.is at (c.in_ok-top.ensures below))
    ∙ ap (λ x. on_top x below) c.answer_from.ensures
