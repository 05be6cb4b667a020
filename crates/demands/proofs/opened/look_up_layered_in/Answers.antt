-- `demands::opened::look_up_layered_in` meets its contract. Assumes nothing.
use Rattle.format.specs.Kit.{sym, subst}
use Rattle.format.specs.LookUp.{look_up_in}
use Rattle.format.specs.Layered.{machine, correction}
use Rattle.column.specs.Opened.{column_of}
use Rattle.demands.specs.Tables.{LayeredSays}
use Rattle.demands.proofs.Tables.{layered_in_says}
use Rattle.demands.proofs.Answers.{few}
use Rattle.demands.proofs.opened.look_up_layered_in.Goals as goal

pub returns : goal.returns
returns c =
    let a = c.args in
    let m = a.below.now in
    let t = a.above.now in
    let x = column_of a.lower in
    let y = column_of a.upper in
    let e = c.look_up_layered_in.ensures in record { says = subst (LayeredSays (look_up_in t y a.id) (look_up_in m x a.id)) (sym e.answers) (layered_in_says m x t y a.id); words = (few a.lower.head.power _ (e.words machine), few a.upper.head.power _ (e.words correction)) }
