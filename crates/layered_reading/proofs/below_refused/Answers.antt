-- `layered_reading::below_refused` meets its contract. Assumes nothing.
use Rattle.column.specs.Opened.{column_of}
use Rattle.layered_reading.proofs.Laws.{below_machine, below_correction}
use Rattle.layered_reading.proofs.below_refused.Goals as goal

pub returns-in-Ok : goal.returns-in-Ok
returns-in-Ok c =
    let a = c.args in
    let f = rw c.in-Ok.is at c.refill-got.ensures in
    below_machine a.correction.now (column_of a.column) a.from a.why (rw c.wide32.ensures.0
    at f.answers)

pub returns-in-Err : goal.returns-in-Err
returns-in-Err c =
    let a = c.args in
    let f = rw c.in-Err.is at c.refill-got.ensures in
    below_correction a.correction.now (column_of a.column) a.from a.why c.in-Err.above (rw c.wide32.ensures.0 at f)
