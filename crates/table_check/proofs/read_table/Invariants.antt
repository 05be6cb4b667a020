use Rattle.format.specs.Kit.{◌-◌}
use Rattle.format.specs.Stores.{Fill}
use Rattle.table_check.specs.ValuesOk.{entries_from}
use Rattle.table_check.proofs.read_table.Given as goal

-- `table_check::read_table` meets its contract. Assumes nothing.
abbrev pub invariant-loop-i : goal.invariant-loop-i
invariant-loop-i l = Fill l.initial.table 0 (entries_from 0 l.t l.section) l.table l.i (entries_from l.i (l.t - l.i) l.section)
