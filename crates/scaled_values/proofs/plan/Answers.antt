-- `scaled_values::plan` meets its contract. Assumes nothing.
use Rattle.format.specs.Kit.{sym}
use Rattle.laws.proofs.Scaled.{scaled_fields}
use Rattle.packings.specs.Packings.{packing_of}
use Rattle.scaled_values.proofs.plan.Goals as goal

pub returns : goal.returns
returns c =
    let s = c.scale_of-scale.ensures in
    let a = c.args in
    (rw (c.width_for.ensures, s.most_is, s.smallest_is, s.divisor_is) (sym (scaled_fields (packing_of a.order) a.values.now)), s.fit)
