-- A part of a reading: from place i of the lists and the id t on, up to place i' and the id t', with the lists before and after (with ').
-- Parts that follow each other make one. Assumes nothing.
use Rattle.std.specs.Prelude.{◌-◌, ◌≤◌, ◌<◌, ◌≡◌}
use Rattle.format.specs.Kit.{ℕ, true, List, ℤ}
use Rattle.format.specs.Opening.{Opened}
use Rattle.format.specs.Next.{next_steps}
use Rattle.format.specs.Stores.{Fill}
use Rattle.format.specs.ReadFrom.{answered, pairs_from}

pub record Reads (bytes : List ℕ) (c : Opened) (room i t : ℕ) (ids : List ℕ) (vs : List ℤ) (i' t' : ℕ) (ids' : List ℕ) (vs' : List ℤ) : Type 0 where
  pub from : i ≤ i'
  pub most : i' ≤ room
  pub in_ids : Fill ids i (pairs_from (room - i) bytes c t).ids ids' i' (pairs_from (room - i') bytes c t').ids
  pub in_values : Fill vs i (pairs_from (room - i) bytes c t).values vs' i' (pairs_from (room - i') bytes c t').values
  pub ended : (pairs_from (room - i') bytes c t').ended ≡ (pairs_from (room - i) bytes c t).ended
  -- where it has a place, the first candidate was no refusal; where it has none, the first candidate is still to come
  pub some : i < i' → answered (next_steps bytes c t) ≡ true
  pub none : i ≡ i' → next_steps bytes c t' ≡ next_steps bytes c t
