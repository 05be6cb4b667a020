-- `table_values::fields_of` meets its contract. Assumes nothing.
use Rattle.format.specs.Table.{table_fields}
use Rattle.table_values.proofs.fields_of.Goals as goal

pub returns : goal.returns
unfolding table_fields
returns c = rw c.code_width.ensures.0
