use Rattle.format.specs.Kit.{◌≡◌, ◌-◌, ◌≤◌, get_or, drop}
use Rattle.format.specs.Writer.{not_above, order_fault}
use Rattle.writer.proofs.first_disorder.Given as goal

-- `writer::first_disorder` meets its contract. Assumes nothing.
abbrev pub invariant-loop-i : goal.invariant-loop-i
invariant-loop-i l = (1 ≤ l.i) × (order_fault l.ids ≡ not_above l.i (get_or l.ids (l.i - 1) 0) (drop l.i l.ids))
