use Rattle.format.specs.Kit.{◌+◌, ◌-◌, ◌*◌, ◌≤◌, ◌<◌}
use Rattle.column.specs.Opened.{column_of}
use Rattle.read_in_block.specs.Parts.{Reads}
use Rattle.read_from.proofs.fill.Given as goal

-- `read_from::fill` meets its contract. Invariant: the part up to place r of block b. Assumes nothing.
abbrev pub invariant-loop-b : goal.invariant-loop-b
invariant-loop-b l =
    Reads l.bytes (column_of l.column) l.room 0 l.target l.initial.ids l.initial.values l.i (l.b * 65536 + l.r) l.ids l.values × (l.r < 65536) × (l.b ≤ 32766)

abbrev pub decreases-loop-b : goal.decreases-loop-b
decreases-loop-b l = 32766 - l.b
