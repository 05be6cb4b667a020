-- `demands::opened::look_up_in` meets its contract. Assumes nothing.
use Rattle.format.specs.Kit.{sym, subst}
use Rattle.column.specs.Opened.{column_of}
use Rattle.demands.specs.Tables.{LookInSays}
use Rattle.demands.proofs.Tables.{look_in_says}
use Rattle.demands.proofs.Answers.{few_told, look_up_in_probes}
use Rattle.demands.proofs.opened.look_up_in.Goals as goal

pub returns : goal.returns
returns c =
    let a = c.args in
    let b = a.bytes.now in
    let x = column_of a.column in
    let l = c.look_up_in in
    let e = l.ensures in record { says = subst (LookInSays b x a.id) (sym e.answers) (look_in_says b x a.id); words = few_told a.column.head.power _ e.words; probes = look_up_in_probes b x a.id l.result e.probes }
