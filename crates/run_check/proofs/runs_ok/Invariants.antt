use Rattle.format.specs.Kit.{◌≡◌, ◌-◌, ◌≤◌, length}
use Rattle.run_check.specs.RunsOk.{runs_ok}
use Rattle.run_check.proofs.runs_ok.Given as goal

-- `run_check::runs_ok` meets its contract. The loop's invariant: the runs that are left, with what the others left behind, give what all give.
-- Assumes nothing.
abbrev pub invariant-loop-r : goal.invariant-loop-r
invariant-loop-r l =
    (l.r ≤ l.runs) × (l.at ≤ length l.rest) × (runs_ok l.g l.section l.rest l.n l.runs 0 0 0 0 ≡ runs_ok l.g l.section l.rest l.n (l.runs - l.r) l.r l.at l.apart l.d)
