use Rattle.format.specs.Kit.{◌+◌, ◌-◌, ◌*◌, ◌≤◌, replicate}
use Rattle.format.specs.Bytes.{bytes_of}
use Rattle.format.specs.Ids.{entry_bytes}
use Rattle.format.specs.Stores.{Fill}
use Rattle.section_writer.proofs.put_entries.Given as goal

-- `section_writer::put_entries` meets its contract. Assumes nothing.
abbrev pub invariant-loop-t : goal.invariant-loop-t
invariant-loop-t l =
    (l.t ≤ l.n) × Fill l.initial.out l.at (bytes_of entry_bytes (replicate l.n (l.o, l.s))) l.out (l.at + 8 * l.t) (bytes_of entry_bytes (replicate (l.n - l.t) (l.o, l.s)))
