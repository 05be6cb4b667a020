use Rattle.format.specs.Kit.{◌≡◌, drop}
use Rattle.format.specs.Writer.{range_fault}
use Rattle.writer.proofs.first_outside.Given as goal

-- `writer::first_outside` meets its contract. Assumes nothing.
abbrev pub invariant-loop-i : goal.invariant-loop-i
invariant-loop-i l = range_fault 0 l.ids ≡ range_fault l.i (drop l.i l.ids)
