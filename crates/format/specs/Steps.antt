-- Document 02, [13]: values as steps from a start, whatever start and step somebody chose. Assumes nothing.
use Rattle.std.specs.Prelude.{◌^◌, ◌<◌, ◌≡◌}
use Rattle.format.specs.Kit.{ℕ, List, ℤ}
use Rattle.format.specs.Values.{value_at}
use Rattle.format.specs.Pairs.{Each}

-- every value is the start plus the step, which is positive, times a whole number from 0 to below 2 ^ u
pub record InSteps (start : ℤ) (step u : ℕ) (vs : List ℤ) : Type 0 where
  pub positive : 0 < step
  pub each : Each (λ v. (x : ℕ) × (x < 2 ^ u) × (value_at start step x ≡ v)) vs
