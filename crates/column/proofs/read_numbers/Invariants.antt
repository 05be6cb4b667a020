use Rattle.format.specs.Kit.{◌≡◌, length}
use Rattle.format.specs.HeaderNumbers.{numbers_at}
use Rattle.column.proofs.HeaderNumbers.{reading}
use Rattle.column.proofs.read_numbers.Given as goal

-- `column::read_numbers` meets its contract. The invariant: the numbers read so far, before those still to read, are what the
-- function owes. Assumes nothing.
abbrev pub invariant-loop-slot : goal.invariant-loop-slot
invariant-loop-slot l =
    (length l.out ≡ 8) × (reading l.bytes l.out l.i l.slot-index ≡ numbers_at 8 l.bytes l.at)
