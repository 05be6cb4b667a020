-- A buffer that is filled place after place with a list known beforehand. Assumes nothing.
use Rattle.std.specs.Prelude.{◌≡◌, ◌+◌}
use Rattle.format.specs.Kit.{List, ℕ, length, sets}

-- of the buffer d, into which `whole` goes at a place, l is what stands when `rest` is left for place i and on
pub record Fill {A : Type 0} (d : List A) (at : ℕ) (whole l : List A) (i : ℕ) (rest : List A) : Type 0 where
  pub same : sets l i rest ≡ sets d at whole
  pub next : i + length rest ≡ at + length whole
  pub kept : length l ≡ length d
