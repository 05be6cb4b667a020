-- A header number read at once. Assumes nothing.
use Rattle.std.specs.Prelude.{◌≡◌, ◌+◌, ◌≤◌}
use Rattle.format.specs.Kit.{List, ℕ, drop}
use Rattle.format.specs.HeaderNumbers.{read_number}
use Rattle.header_numbers.specs.Read.{number_of, number_is}
use Rattle.header_numbers.specs.declared.Brief.{Brief}

-- r has no bytes, or else it is the number at a place with the bytes that it takes
pub record Quick (s : List ℕ) (at : ℕ) (r : Brief) : Type 0 where
  pub read : (r.len ≡ 0 → ⊥) → number_of at (read_number (drop at s)) ≡ number_is r.value (at + r.len)
  pub few : r.len ≤ 5
