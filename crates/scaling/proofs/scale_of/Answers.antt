-- `scaling::scale_of` meets its contract. Assumes nothing.
use Rattle.format.specs.Kit.{ap₂, ◌∙◌, ◌/◌, ◌<◌, arith}
use Rattle.format.specs.Values.{divisor}
use Rattle.laws.proofs.Bounds.{divisor_is}
use Rattle.scaling.proofs.Spread.{spread_is, smallest_is}
use Rattle.scaling.proofs.scale_of.Goals as goal

pub divisor_of-divisor-requires : goal.divisor_of-divisor-requires
divisor_of-divisor-requires c =
    let ends = c.ends_of-ends.ensures in
    (ends.low, c.over-gap.ensures ∙ spread_is ends, ends.fit)

pub nonzero_div-most : goal.nonzero_div-most
nonzero_div-most c =
    let d : 0 < divisor c.args.values.now = (divisor_is _ c.ends_of-ends.ensures.fit).0 in
    omega (arith, c.divisor_of-divisor.ensures)

pub returns : goal.returns
returns c =
    let g = c.divisor_of-divisor in
    let d = c.over-gap in
    let ends = c.ends_of-ends.ensures in
    let vs = c.args.values.now in
    record {
      smallest_is = c.number_of-smallest.ensures ∙ smallest_is vs _ ends.low ends.fit;
      divisor_is = g.ensures;
      most_is = ap₂ ◌/◌ (d.ensures ∙ spread_is ends) g.ensures;
      fit = ends.fit;
    }
