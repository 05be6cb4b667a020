use Rattle.format.specs.Kit.{◌≡◌, ◌+◌, ◌*◌, ◌≤◌, length, sets}
use Rattle.format.specs.Bytes.{low, bytes_of}
use Rattle.block_writer.specs.Part.{places_from}
use Rattle.block_writer.proofs.put_sparse.Given as goal

-- `block_writer::put_sparse` meets its contract. Assumes nothing.
-- what is still to be put gives what the whole gives
abbrev pub invariant-loop-i : goal.invariant-loop-i
invariant-loop-i l =
    (l.i ≤ length l.part) × (length l.out ≡ length l.initial.out)
    × (sets l.out (l.at + 2 * l.i) (bytes_of (low 2) (places_from l.part l.i)) ≡ sets l.initial.out l.at (bytes_of (low 2) (places_from l.part 0)))
