-- `demands::layers::layered_part` meets its contract. Assumes nothing.
use Rattle.format.specs.Kit.{sym, ◌∙◌, subst}
use Rattle.format.specs.Editions.{editions}
use Rattle.format.specs.Layered.{look_up_layered}
use Rattle.demands.specs.Tables.{PartSays}
use Rattle.demands.proofs.Tables.{part_says}
use Rattle.demands.proofs.Answers.{part_by_lists}
use Rattle.demands.proofs.layers.layered_part.Goals as goal

pub returns : goal.returns
returns c =
    let k = c.layered_part in
    let a = c.args in
    let m = a.below.now in
    let t = a.above.now in record { says = subst (PartSays m t (look_up_layered editions m t a.id)) (sym k.ensures) (part_says m t a.id); by_lists = λ i j x y u v eu ev h. k.ensures ∙ part_by_lists m t i j x y u v a.id eu ev h }
