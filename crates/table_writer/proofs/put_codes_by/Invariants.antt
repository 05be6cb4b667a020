use Rattle.format.specs.Kit.{◌≡◌, map, length}
use Rattle.format.specs.Table.{code_in}
use Rattle.laws.proofs.Bits.{high_order}
use Rattle.packing.proofs.Stream.{Streamed}
use Rattle.table_writer.proofs.put_codes_by.Given as goal

-- `table_writer::put_codes_by` meets its contract. The loop's invariant: the first i codes are written or wait. Assumes nothing.
abbrev pub invariant-loop-x : goal.invariant-loop-x
invariant-loop-x g l =
    Streamed high_order (map (code_in l.table) l.values) l.w l.initial.out l.x-index l.out l.p × (length l.guesses ≡ g.row.G)
