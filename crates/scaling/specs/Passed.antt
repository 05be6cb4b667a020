-- What it means that parts of a list of places are passed. Assumes nothing.
use Rattle.std.specs.Prelude.{◌≡◌, ◌+◌, ◌*◌, ◌<◌}
use Rattle.format.specs.Kit.{ℕ}

-- P holds of the first place of each part of `step` places between two places
pub record Passed (P : ℕ → Type 0) (step from to : ℕ) : Type 0 where
  pub parts : ℕ
  pub ends : to ≡ from + parts * step
  pub each : (j : ℕ) → j < parts → P (from + j * step)
