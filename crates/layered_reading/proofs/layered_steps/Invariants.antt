use Rattle.format.specs.Kit.{◌-◌}
use Rattle.column.specs.Opened.{column_of}
use Rattle.layered_reading.proofs.Looping.{Looping}
use Rattle.layered_reading.proofs.layered_steps.Given as goal

-- `layered_reading::layered_steps` meets its contract. Invariant: the part that was read, and what the buffers hold (`Looping`). Assumes nothing.
abbrev pub invariant-loop-upper : goal.invariant-loop-upper
invariant-loop-upper l =
    Looping l.machine (column_of l.machine_column) l.correction (column_of l.correction_column) l.room l.from l.initial.ids l.initial.values l.initial.columns l.machine_ids l.machine_values l.correction_ids
    l.correction_values l.below l.top l.i l.target l.ids l.values l.columns

abbrev pub decreases-loop-upper : goal.decreases-loop-upper
decreases-loop-upper l =
    l.room - l.i
