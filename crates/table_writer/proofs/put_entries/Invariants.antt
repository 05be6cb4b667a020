use Rattle.format.specs.Kit.{◌*◌, drop}
use Rattle.format.specs.Bytes.{bytes_of}
use Rattle.format.specs.Stores.{Fill}
use Rattle.format.specs.Table.{table_entry}
use Rattle.table_writer.proofs.put_entries.Given as goal

-- `table_writer::put_entries` meets its contract. The loop's invariant: the entries from i on are still to be put. Assumes nothing.
abbrev pub invariant-loop-i : goal.invariant-loop-i
invariant-loop-i l = Fill l.initial.out 0 (bytes_of table_entry l.table) l.out (8 * l.i) (bytes_of table_entry (drop l.i l.table))
