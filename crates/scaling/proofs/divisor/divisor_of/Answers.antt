-- `scaling::divisor::divisor_of` meets its contract. Assumes nothing.
use Rattle.format.specs.Kit.{◌∙◌, arith}
use Rattle.scaling.proofs.Spread.{divisor_equal, divisor_else}
use Rattle.scaling.proofs.divisor.divisor_of.Goals as goal

pub returns-then-gap-eq0 : goal.returns-then-gap-eq0
returns-then-gap-eq0 c = divisor_equal c.args.values.now (omega arith)

pub returns-else-gap-eq0 : goal.returns-else-gap-eq0
returns-else-gap-eq0 c =
    c.gcd_of.ensures ∙ divisor_else c.args.values.now (λ e. omega arith)

pub gcd_of-requires : goal.gcd_of-requires
gcd_of-requires c = (c.requires.0, c.requires.2)
