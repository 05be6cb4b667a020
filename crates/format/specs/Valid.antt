-- The pair lists that a column of an edition can hold: an id for each value, ids strictly ascending, each within document 01's limits, and
-- values that the edition takes. Assumes nothing.
use Rattle.std.specs.Prelude.{◌≡◌}
use Rattle.format.specs.Kit.{ℕ, suc, true, List, length, ℤ}
use Rattle.format.specs.Limits.{max_id, power_ok}
use Rattle.format.specs.Pairs.{Asc, Below, Each, Fits}
use Rattle.format.specs.Editions.{Edition, codec}

-- what the writer takes
pub record Valid (ed : Edition) (p : ℕ) (ids : List ℕ) (vs : List ℤ) : Type 0 where
  pub lengths : length ids ≡ length vs
  pub power : power_ok p ≡ true
  pub ascending : Asc 0 ids
  pub range : Below (suc max_id) ids
  pub fit : Each Fits vs
  pub taken : (codec ed).takes vs ≡ true
