use Rattle.page.specs.Runs.{Ready}
use Rattle.page.proofs.runs.reached.Given as goal

-- `page::runs::reached` meets its contract. Assumes nothing.
abbrev pub invariant-loop-j : goal.invariant-loop-j
invariant-loop-j l = Ready l.s l.at l.j l.r
