-- What the loops of a layered reading keep: a buffer of one column's pairs, one column alone, and how a reading ends. Lists afterwards have a '.
-- Assumes nothing.
use Rattle.std.specs.Prelude.{◌+◌, ◌-◌, ◌<◌, ◌≡◌, ◌⊎◌}
use Rattle.format.specs.Kit.{ℕ, Bool, true, List, map, ℤ, length, take, drop, sets, replicate}
use Rattle.format.specs.Opening.{Opened}
use Rattle.format.specs.Next.{next_steps}
use Rattle.format.specs.ReadFrom.{pairs_from}
use Rattle.format.specs.Layered.{Layer}
use Rattle.format.specs.Layered.{layer_number}
use Rattle.format.specs.LayeredReading.{LayeredNext, refused_next, next_from, next_of_both, layered_steps, LayeredRead, read_to, both_then, answering_from}
use Rattle.format.specs.LayeredReading.{pair_id, pair_value, pair_column}
use Rattle.layered_reading.specs.Turns.{answered_next}

-- the pairs from place `at` to place `count` are the column's from the target t on, and it has none after them exactly if it ended
pub record Holds (bytes : List ℕ) (c : Opened) (t : ℕ) (is : List ℕ) (vs : List ℤ) (at count : ℕ) (ended : Bool) : Type 0 where
  pub room : ℕ
  pub ids : (pairs_from room bytes c t).ids ≡ take (count - at) (drop at is)
  pub values : (pairs_from room bytes c t).values ≡ take (count - at) (drop at vs)
  pub last : (pairs_from room bytes c t).ended ≡ ended

-- the steps from t on are those of one column
pub record Alone (layer : Layer) (next : ℕ → LayeredNext) (bytes : List ℕ) (c : Opened) (t : ℕ) : Type 0 where
  pub here : next t ≡ next_from layer (next_steps bytes c t)
  pub ids : (k : ℕ) → map pair_id (layered_steps next k t).pairs ≡ (pairs_from k bytes c t).ids
  pub values : (k : ℕ) → map pair_value (layered_steps next k t).pairs ≡ (pairs_from k bytes c t).values
  pub columns : (k : ℕ) → map pair_column (layered_steps next k t).pairs ≡ replicate (length (pairs_from k bytes c t).ids) (layer_number layer)
  pub ended : (k : ℕ) → (layered_steps next k t).ended ≡ (pairs_from k bytes c t).ended

-- from place i and target t on: the rest of the reading is in the lists
pub record Stopped (next : ℕ → LayeredNext) (room i t : ℕ) (ids : List ℕ) (vs : List ℤ) (cs : List ℕ) (n : ℕ) (e : Bool) (ids' : List ℕ) (vs' : List ℤ)
    (cs' : List ℕ) : Type 0 where
  pub in_ids : ids' ≡ sets ids i (map pair_id (layered_steps next (room - i) t).pairs)
  pub in_values : vs' ≡ sets vs i (map pair_value (layered_steps next (room - i) t).pairs)
  pub in_columns : cs' ≡ sets cs i (map pair_column (layered_steps next (room - i) t).pairs)
  pub count : n ≡ i + length (layered_steps next (room - i) t).pairs
  pub ended : (layered_steps next (room - i) t).ended ≡ e
  -- a pair comes before, or the next step is no refusal
  pub starts : (0 < i) ⊎ (answered_next (next t) ≡ true)

-- refused before the first pair
pub record Refuses (next : ℕ → LayeredNext) (i t : ℕ) (layer : Layer) (why w : ℕ) (ids ids' : List ℕ) (vs vs' : List ℤ) (cs cs' : List ℕ) : Type 0 where
  pub first : i ≡ 0
  pub refusal : next t ≡ refused_next layer why w
  pub in_ids : ids' ≡ ids
  pub in_values : vs' ≡ vs
  pub in_columns : cs' ≡ cs

-- 15 by one of them, or the reading
abbrev pub read_layered_steps : List ℕ → Opened → List ℕ → Opened → ℕ → ℕ → LayeredRead
read_layered_steps m x c y t room =
    both_then (answering_from c t y) (answering_from m t x) (λ y x. read_to (layered_steps (next_of_both m x c y) room t))
