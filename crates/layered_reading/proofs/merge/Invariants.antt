use Rattle.format.specs.Kit.{◌-◌}
use Rattle.layered_reading.proofs.Turning.{Going}
use Rattle.layered_reading.proofs.merge.Given as goal

-- `layered_reading::merge` meets its contract. Invariant: what was merged so far (`Going`). Assumes nothing.
abbrev pub invariant-loop-i : goal.invariant-loop-i
invariant-loop-i l =
    Going l.room l.start l.from l.machine_ids l.machine_values l.machine l.correction_ids l.correction_values l.correction l.initial.ids l.initial.values l.initial.columns l.i l.target l.m l.c l.ids l.values l.columns

abbrev pub decreases-loop-i : goal.decreases-loop-i
decreases-loop-i l =
    l.room - l.i
