use Rattle.format.specs.Kit.{◌≤◌}
use Rattle.format.specs.Values.{divisor}
use Rattle.format.specs.ValueRuns.{runs_of}
use Rattle.run_writer.proofs.Laid.{Laid}
use Rattle.run_writer.proofs.put.Given as goal

-- `run_writer::put` meets its contract. The loop's invariant: what is left of the directory and of the runs, put where it goes, makes the whole
-- section. Assumes nothing.
abbrev pub invariant-loop-r : goal.invariant-loop-r
invariant-loop-r l = (l.r ≤ l.count) × Laid (divisor l.values) (runs_of l.values) l.initial.out l.out l.r l.start
