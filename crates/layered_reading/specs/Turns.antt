-- A part of a layered reading, as a loop's invariant: from place i of the lists and target t on, up to place i' and target t', with the lists before
-- and after (with '). Parts that follow each other make one. Assumes nothing.
use Rattle.std.specs.Prelude.{◌-◌, ◌≤◌, ◌<◌, ◌≡◌}
use Rattle.format.specs.Kit.{ℕ, Bool, true, false, List, map, ℤ}
use Rattle.format.specs.Stores.{Fill}
use Rattle.format.specs.LayeredReading.{pair_id, pair_value, pair_column, LayeredPair, LayeredNext, next_pair, no_pair, refused_next, layered_steps}

-- whether a step is no refusal
unfoldable pub answered_next : LayeredNext → Bool
answered_next (next_pair p) = true
answered_next no_pair = true
answered_next (refused_next layer why x) = false

-- one list: what is still to be put into it, before and after
abbrev pub Puts : {A : Type 0} → (LayeredPair → A) → (ℕ → LayeredNext) → ℕ → ℕ → ℕ → List A → ℕ → ℕ → List A → Type 0
Puts f next room i t l i' t' l' = Fill l i (map f (layered_steps next (room - i) t).pairs) l' i' (map f (layered_steps next (room - i') t').pairs)

pub record LayeredReads (next : ℕ → LayeredNext) (room i t : ℕ) (ids : List ℕ) (vs : List ℤ) (cs : List ℕ) (i' t' : ℕ) (ids' : List ℕ) (vs' : List ℤ)
    (cs' : List ℕ) : Type 0 where
  pub from : i ≤ i'
  pub most : i' ≤ room
  pub in_ids : Puts pair_id next room i t ids i' t' ids'
  pub in_values : Puts pair_value next room i t vs i' t' vs'
  pub in_columns : Puts pair_column next room i t cs i' t' cs'
  pub ended : (layered_steps next (room - i') t').ended ≡ (layered_steps next (room - i) t).ended
  -- where it has a place, the first step was no refusal; where it has none, the first step is still to come
  pub some : i < i' → answered_next (next t) ≡ true
  pub none : i ≡ i' → next t' ≡ next t
