-- `demands::opened::open_then_next` meets its contract. Assumes nothing.
use Rattle.format.specs.Kit.{sym, ap, ◌∙◌}
use Rattle.column.specs.Opened.{opened_of}
use Rattle.demands.proofs.Lists.{not_refused}
use Rattle.demands.proofs.Answers.{next_answers, next_in_is}
use Rattle.demands.proofs.opened.open_then_next.Goals as goal

pub returns-in-Err : goal.returns-in-Err
returns-in-Err c =
    λ n x. not_refused c.args.bytes.now (ap opened_of (sym c.in-Err.is) ∙ c.open.ensures) n x

pub returns-in-Ok : goal.returns-in-Ok
returns-in-Ok c =
    let a = c.args in
    let i = c.next_in in
    let opens = sym c.open.ensures ∙ ap opened_of c.in-Ok.is in
    next_answers a.bytes.now a.cursor.last a.target i.result _ (next_in_is a.bytes.now _ a.cursor.last a.target opens)
    i.ensures.answers i.ensures.cursor
