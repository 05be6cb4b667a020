use Rattle.page.specs.Runs.{Run}
use Rattle.page.proofs.runs.run_end.Given as goal

-- `page::runs::run_end` meets its contract. Assumes nothing.
abbrev pub invariant-loop-e : goal.invariant-loop-e
invariant-loop-e l = Run l.ids l.i l.e
