use Rattle.format.specs.Kit.{◌≡◌, ◌+◌, ◌-◌, ◌*◌, ◌^◌, ◌≤◌, ◌<◌}
use Rattle.column.specs.Opened.{column_of}
use Rattle.next_in_block.specs.First.{inner_in}
use Rattle.read_in_block.specs.Parts.{Reads}
use Rattle.read_in_block.proofs.dense.by_longs.Given as goal

-- `read_in_block::dense::by_longs` meets its contract. Invariant: the part up to place r, whose index is `rank`. Assumes nothing.
abbrev pub invariant-loop-r : goal.invariant-loop-r
invariant-loop-r l =
    Reads l.bytes (column_of l.column) l.room l.from (l.b * 65536 + l.place) l.initial.ids l.initial.values l.i (l.b * 65536 + l.r) l.ids l.values × (l.r ≤ 65536)
    × (l.rank < 2 ^ 64) × (l.r < 65536 → l.rank ≡ inner_in l.p l.s l.t l.r)

abbrev pub decreases-loop-r : goal.decreases-loop-r
decreases-loop-r l = 65536 - l.r
