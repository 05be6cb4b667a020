use Rattle.format.specs.Kit.{◌≡◌, ◌+◌, ◌-◌, ◌≤◌, ◌<◌, drop}
use Rattle.format.specs.HeaderNumbers.{read_groups}
use Rattle.header_numbers.specs.Read.{number_on}
use Rattle.header_numbers.proofs.Steps.{Scaled}
use Rattle.header_numbers.proofs.read_rest.Given as goal

-- `header_numbers::read_rest` meets its contract. The invariant: what the bytes from here on make of the sum so far is what the function
-- owes. Assumes nothing.
abbrev pub invariant-loop-i : goal.invariant-loop-i
invariant-loop-i l =
    (l.i - l.first ≤ 9) × (l.sum < l.scale) × Scaled (9 - (l.i - l.first)) l.scale
    × (number_on l.scale l.sum l.i (read_groups (9 - (l.i - l.first)) (drop l.i l.s)) ≡ number_on 128 l.low (l.first + 1) (read_groups 8 (drop (l.first + 1) l.s)))
