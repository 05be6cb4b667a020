use Rattle.format.specs.Kit.{◌≡◌, ◌+◌, ◌≤◌, length, sets}
use Rattle.format.specs.HeaderNumbers.{number}
use Rattle.header_numbers.proofs.put_number.Given as goal

-- `header_numbers::put_number` meets its contract. What is left to write, written from here on, gives what the whole number gives.
-- Assumes nothing.
abbrev pub invariant-loop-x : goal.invariant-loop-x
invariant-loop-x l =
    (length l.out ≡ length l.initial.out) × (l.x ≤ l.n) × (l.i + length (number l.x) ≡ l.at + length (number l.n)) × (sets l.out l.i (number l.x) ≡ sets l.initial.out l.at (number l.n))

abbrev pub decreases-loop-x : goal.decreases-loop-x
decreases-loop-x l = l.x
