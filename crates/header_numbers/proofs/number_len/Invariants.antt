use Rattle.format.specs.Kit.{◌≡◌, ◌+◌, ◌≤◌, length}
use Rattle.format.specs.HeaderNumbers.{number}
use Rattle.header_numbers.proofs.number_len.Given as goal

-- `header_numbers::number_len` meets its contract. Each turn takes a byte off the number. Assumes nothing.
abbrev pub invariant-loop-x : goal.invariant-loop-x
invariant-loop-x l = (l.k + length (number l.x) ≡ 1 + length (number l.n)) × (l.k + l.x ≤ l.n + 1) × (1 ≤ l.k)

abbrev pub decreases-loop-x : goal.decreases-loop-x
decreases-loop-x l = l.x
