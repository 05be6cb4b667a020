use Rattle.format.specs.Kit.{◌+◌, ◌*◌, ◌≤◌}
use Rattle.column.specs.Opened.{column_of}
use Rattle.next_in_block.specs.First.{Below}
use Rattle.read_in_block.specs.Parts.{Reads}
use Rattle.read_in_block.proofs.sparse.one_by_one.Given as goal

-- `read_in_block::sparse::one_by_one` meets its contract. Invariant: the part up to place r, and the entries before j are below it. Assumes nothing.
abbrev pub invariant-loop-j : goal.invariant-loop-j
invariant-loop-j l =
    Reads l.bytes (column_of l.column) l.room l.from (l.b * 65536 + l.place) l.initial.ids l.initial.values l.i (l.b * 65536 + l.r) l.ids l.values × (l.r ≤ 65536) × Below l.s l.t l.count l.r l.j
