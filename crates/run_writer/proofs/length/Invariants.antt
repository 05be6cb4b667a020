use Rattle.format.specs.Kit.{◌≡◌, ◌+◌, ◌≤◌}
use Rattle.format.specs.Values.{divisor}
use Rattle.format.specs.ValueRuns.{directory_length, runs_of}
use Rattle.laws.proofs.ValueRuns.{run_start}
use Rattle.run_writer.proofs.length.Given as goal

-- `run_writer::length` meets its contract. The loop's invariant: the sum is the directory and the bytes of the runs before run r.
-- Assumes nothing.
abbrev pub invariant-loop-r : goal.invariant-loop-r
invariant-loop-r l = (l.r ≤ l.count) × (l.sum ≡ directory_length l.n + run_start (divisor l.values) (runs_of l.values) l.r)
