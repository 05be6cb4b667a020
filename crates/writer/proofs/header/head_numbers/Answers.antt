-- `writer::header::head_numbers` meets its contract. Assumes nothing.
use Rattle.format.specs.Column.{head_numbers}
use Rattle.writer.proofs.header.head_numbers.Goals as goal

pub returns : goal.returns
unfolding head_numbers
returns c = rw c.number_of.ensures
