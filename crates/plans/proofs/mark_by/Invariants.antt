use Rattle.format.specs.Kit.{◌≡◌, length}
use Rattle.plans.proofs.Checked.{Marking}
use Rattle.plans.proofs.mark_by.Given as goal

-- `plans::mark_by` meets its contract. The loop's invariant: the values from i on are still to be looked for and marked. Assumes nothing.
abbrev pub invariant-loop-x : goal.invariant-loop-x
invariant-loop-x g l = Marking l.table l.values l.initial.marks l.marks l.x-index × (length l.guesses ≡ g.row.G)
