-- `demands::opened::open_then_look_up` meets its contract. Assumes nothing.
use Rattle.format.specs.Kit.{sym}
use Rattle.demands.proofs.Lists.{not_refused}
use Rattle.demands.proofs.Answers.{opened_answered}
use Rattle.demands.proofs.opened.open_then_look_up.Goals as goal

pub returns-in_err-opened : goal.returns-in_err-opened
returns-in_err-opened c =
    λ n x h. not_refused c.args.bytes.now c.in_err-opened.ensures n x

pub returns : goal.returns
returns c =
    let a = c.args in
    let i = c.look_up_in in
    opened_answered a.bytes.now a.id i.result _ (sym c.in_ok-opened.ensures) i.ensures.answers
    i.ensures.probes
