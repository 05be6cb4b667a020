-- `packing::eight_at` meets its contract. Assumes nothing.
use Rattle.format.specs.Kit.{refl, ap, ◌∙◌, mul-one, arith}
use Rattle.packing.specs.Turned.{turned}
use Rattle.packing.proofs.Swap.{turned_low}
use Rattle.packing.proofs.eight_at.Goals as goal

pub returns : goal.returns
returns c =
    let a = c.args in
    c.swapped.ensures ∙ ap (turned 8) c.long_at.ensures
    ∙ turned_low 8 0 8 a.s.now a.b (λ k. (c.type_inv.s k).fits) (omega arith) refl ∙ mul-one _
