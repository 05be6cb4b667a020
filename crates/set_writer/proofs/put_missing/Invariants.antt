use Rattle.format.specs.Kit.{◌≤◌, length}
use Rattle.format.specs.Pairs.{Asc}
use Rattle.format.specs.Stores.{Fill}
use Rattle.block_writer.specs.Part.{places_from}
use Rattle.set_writer.proofs.Spans.{left_of}
use Rattle.set_writer.proofs.put_missing.Given as goal

-- `set_writer::put_missing` meets its contract. The loop's invariant: the missing places from x on, past the listed ones before index j, are what
-- is left to store from i on. Assumes nothing.
abbrev pub invariant-loop-id : goal.invariant-loop-id
invariant-loop-id l =
    (l.id-index ≤ length l.part) × Fill l.initial.out l.at (left_of l.part 0 0) l.out l.i (left_of l.part l.x l.id-index) × Asc l.x (places_from l.part l.id-index) × (l.x ≤ 65536)
