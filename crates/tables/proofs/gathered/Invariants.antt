use Rattle.format.specs.Kit.{◌≡◌, length}
use Rattle.tables.proofs.PutIn.{Gathered}
use Rattle.tables.proofs.gathered.Given as goal

-- `tables::gathered` meets its contract. The loop's invariant: the first n entries, with the values still to come, are the table of all.
-- Assumes nothing.
abbrev pub invariant-loop-x : goal.invariant-loop-x
invariant-loop-x g l = Gathered (length l.initial.table) l.values l.table l.n l.x-index × (length l.guesses ≡ g.row.G)
