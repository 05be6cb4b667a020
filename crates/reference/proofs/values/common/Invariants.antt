use Rattle.reference.proofs.values.common.Given as goal

-- A remainder is below what it was divided by.
abbrev pub decreases-loop-y : goal.decreases-loop-y
decreases-loop-y l = l.y
