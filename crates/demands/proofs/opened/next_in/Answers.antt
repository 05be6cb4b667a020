-- `demands::opened::next_in` meets its contract. Assumes nothing.
use Rattle.format.specs.Kit.{sym, ap, ◌∙◌, subst}
use Rattle.format.specs.Refusals.{Outcome}
use Rattle.format.specs.Next.{Candidate, last_after}
use Rattle.column.specs.Opened.{column_of}
use Rattle.demands.specs.Tables.{NextInSays}
use Rattle.demands.proofs.Tables.{next_in_says}
use Rattle.demands.proofs.opened.next_in.Goals as goal

pub returns : goal.returns
returns c =
    let a = c.args in
    let b = a.bytes.now in
    let x = column_of a.column in
    let e = c.next_in.ensures in record { says = subst (NextInSays b x a.cursor.last a.target) (sym e.answers) (next_in_says b x a.cursor.last a.target); cursor = e.cursor ∙ ap (λ (o : Outcome Candidate). last_after o a.cursor.last a.target) (sym e.answers) }
