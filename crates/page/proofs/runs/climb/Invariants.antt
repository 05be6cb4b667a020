use Rattle.format.specs.Kit.{◌≡◌, true}
use Rattle.page.specs.Runs.{Climbs}
use Rattle.page.proofs.runs.climb.Given as goal

-- `page::runs::climb` meets its contract. Assumes nothing.
abbrev pub invariant-loop-i : goal.invariant-loop-i
invariant-loop-i l = l.right ≡ true → Climbs l.s l.at l.i
