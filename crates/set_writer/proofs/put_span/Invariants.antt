use Rattle.format.specs.Kit.{◌+◌, ◌-◌, ◌*◌, ◌≤◌}
use Rattle.format.specs.Stores.{Fill}
use Rattle.set_writer.proofs.Spans.{span}
use Rattle.set_writer.proofs.put_span.Given as goal

-- `set_writer::put_span` meets its contract. Assumes nothing.
abbrev pub invariant-loop-i : goal.invariant-loop-i
invariant-loop-i l = (l.i ≤ l.n) × Fill l.initial.out l.at (span l.n l.x) l.out (l.at + 2 * l.i) (span (l.n - l.i) (l.x + l.i))
