-- `demands::opened::open_then_look_up_layered` meets its contract. Assumes nothing.
use Rattle.format.specs.Kit.{sym, ap, ◌∙◌}
use Rattle.column.specs.Opened.{opened_of}
use Rattle.demands.proofs.Lists.{not_refused}
use Rattle.demands.proofs.Answers.{opened_layered_answered}
use Rattle.demands.proofs.opened.open_then_look_up_layered.Goals as goal

pub returns-in-Err : goal.returns-in-Err
returns-in-Err c =
    λ i j x y h. not_refused c.args.machine.now (ap opened_of (sym c.in-Err.is) ∙ c.open-below.ensures) i x

pub returns-in-Err-above : goal.returns-in-Err-above
returns-in-Err-above c =
    λ i j x y h. not_refused c.args.correction.now (ap opened_of (sym c.in-Err-above.is) ∙ c.open-above.ensures) j y

pub returns-in-Ok-above : goal.returns-in-Ok-above
returns-in-Ok-above c =
    let a = c.args in
    let i = c.look_up_layered_in in
    opened_layered_answered a.machine.now a.correction.now a.id i.result _ _
    (sym c.open-below.ensures ∙ ap opened_of c.in-Ok.is) (sym c.open-above.ensures ∙ ap opened_of c.in-Ok-above.is)
    i.ensures.answers
