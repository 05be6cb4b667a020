-- `table_values::code_width` meets its contract. Assumes nothing.
use Rattle.format.specs.Kit.{arith}
use Rattle.format.specs.Editions.{high_first}
use Rattle.laws.proofs.Table.{code_narrow}
use Rattle.table_values.proofs.code_width.Goals as goal

pub returns : goal.returns
unfolding high_first
returns c = (c.width_for.ensures, omega (arith, c.width_for.ensures, code_narrow c.args.t c.requires.1))
