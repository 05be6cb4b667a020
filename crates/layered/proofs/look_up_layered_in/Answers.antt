-- `layered::look_up_layered_in` meets its contract. Assumes nothing.
use Rattle.format.specs.Kit.{ap, ◌∙◌}
use Rattle.format.specs.LookUp.{look_up_in}
use Rattle.format.specs.Layered.{underneath, on_top, look_up_layered_in}
use Rattle.answers.proofs.PassedOn.{passed_on}
use Rattle.column.specs.Opened.{column_of}
use Rattle.layered.specs.Answers.{layered_of}
use Rattle.layered.proofs.Layering.{found_there}
use Rattle.layered.proofs.look_up_layered_in.Goals as goal

pub returns-in_err-top : goal.returns-in_err-top
unfolding look_up_layered_in
returns-in_err-top c =
    let below = look_up_in c.args.machine.now (column_of c.args.machine_column) c.args.id in
    ap layered_of (passed_on c.from_residual.result _ c.from_residual.ensures.1) ∙ c.in_err-top.ensures below
    ∙ ap (λ x. on_top x below) c.look_up_in.ensures.result_value

pub returns-in_default : goal.returns-in_default
unfolding look_up_layered_in
returns-in_default c =
    let below = look_up_in c.args.machine.now (column_of c.args.machine_column) c.args.id in
    found_there c.in_ok-top.top below _ c.in_default.not-Absent (c.in_ok-top.ensures below) ∙ ap (λ x. on_top x below) c.look_up_in.ensures.result_value

pub returns : goal.returns
unfolding look_up_layered_in
returns c =
    let below = look_up_in c.args.machine.now (column_of c.args.machine_column) c.args.id in
    c.underneath.ensures ∙ ap (underneath c.in-Absent.correction_words) c.look_up_in-2.ensures.result_value
    ∙ (rw c.in-Absent.is at (c.in_ok-top.ensures below))
    ∙ ap (λ x. on_top x below) c.look_up_in.ensures.result_value
