use Rattle.format.specs.Kit.{◌≡◌, false, ◌-◌, ◌≤◌, get_or, drop}
use Rattle.format.specs.Writer.{not_above, order_fault}
use Rattle.writer.proofs.disordered.Given as goal

-- `writer::disordered` meets its contract. Assumes nothing.
abbrev pub invariant-loop-i : goal.invariant-loop-i
invariant-loop-i l = (1 ≤ l.i) × (l.bad ≡ false → order_fault l.ids ≡ not_above l.i (get_or l.ids (l.i - 1) 0) (drop l.i l.ids))
