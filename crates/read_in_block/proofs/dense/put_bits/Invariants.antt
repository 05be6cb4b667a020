use Rattle.format.specs.Kit.{◌≡◌, ◌+◌, ◌-◌, ◌*◌, ◌≤◌}
use Rattle.format.specs.Stores.{Fill}
use Rattle.format.specs.ReadFrom.{id_after}
use Rattle.read_in_block.specs.Rows.{bits_from, BitsIn}
use Rattle.read_in_block.proofs.dense.put_bits.Given as goal

-- `read_in_block::dense::put_bits` meets its contract. Invariant: what is left are the bits from y on. Assumes nothing.
abbrev pub invariant-loop-i : goal.invariant-loop-i
invariant-loop-i l =
    BitsIn l.y l.bits (l.end - l.i)
    × Fill l.initial.ids l.from (bits_from l.b l.r l.rest (l.end - l.from)) l.ids l.i (bits_from l.b l.y l.bits (l.end - l.i))
    × (id_after (l.b * 65536 + l.y) (bits_from l.b l.y l.bits (l.end - l.i)) ≡ id_after (l.b * 65536 + l.r) (bits_from l.b l.r l.rest (l.end - l.from)))
    × (l.y ≤ 65536)
