use Rattle.format.specs.Kit.{◌≡◌, ◌+◌, ◌*◌, ◌<◌}
use Rattle.format.specs.Bits.{unpacked}
use Rattle.table_check.proofs.Codes.{Counting}
use Rattle.table_check.proofs.mark_codes.Given as goal

-- `table_check::mark_codes` meets its contract. The loop's invariant: the codes from i on are still to be looked at, and code i stands at the
-- place that is kept. Assumes nothing.
abbrev pub invariant-loop-i : goal.invariant-loop-i
invariant-loop-i l = Counting l.t (unpacked l.w l.n l.codes) l.initial.marks l.marks l.i × (l.at * 8 + l.skip ≡ l.i * l.w) × (l.skip < 8)
