-- A value at a place of a table, and a table that holds values, where it has room for them. Assumes nothing.
use Rattle.std.specs.Prelude.{◌≡◌, ◌<◌, ◌≤◌}
use Rattle.format.specs.Kit.{ℕ, suc, List, length, get_or, take, ℤ, pos}

abbrev pub Stands : List ℤ → ℕ → ℤ → Type 0
Stands us k v = (k < length us) × (get_or us k (pos 0) ≡ v)

-- r tells how many they are, and they are the first entries; or, of more than there is room for, that they are too many
pub record Holds (room : ℕ) (us : List ℤ) (r : ℕ) (table : List ℤ) : Type 0 where
  pub size : length table ≡ room
  pub few : length us ≤ room → (r ≡ length us) × (take r table ≡ us)
  pub many : room < length us → r ≡ suc room
