-- `demands::layers::layered_values` meets its contract. Assumes nothing.
use Rattle.format.specs.Kit.{subst}
use Rattle.format.specs.Editions.{editions}
use Rattle.format.specs.Layered.{layered_part, IsPart}
use Rattle.demands.proofs.Tables.{part_says}
use Rattle.demands.proofs.Answers.{part_by_lists}
use Rattle.demands.proofs.layers.layered_values.Goals as goal

pub returns : goal.returns
returns c =
    let k = c.layered_values in
    let a = c.args in
    let m = a.below.now in
    let t = a.above.now in record { says = (layered_part editions m t a.id, part_says m t a.id, k.ensures); by_lists = λ i j x y u v eu ev h. subst (IsPart k.result a.below a.above) (part_by_lists m t i j x y u v a.id eu ev h) k.ensures }
