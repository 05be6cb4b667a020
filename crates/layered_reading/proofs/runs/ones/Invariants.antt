use Rattle.layered_reading.specs.Runs.{RunTo}
use Rattle.layered_reading.proofs.runs.ones.Given as goal

-- `layered_reading::runs::ones` meets its contract. Assumes nothing.
abbrev pub invariant-loop-k : goal.invariant-loop-k
invariant-loop-k l =
    RunTo l.i l.m l.end l.id l.k l.machine_ids l.machine_values l.initial.ids l.ids l.initial.values l.values l.initial.columns l.columns
