-- What the pass over the blocks tallies. Assumes nothing.
use Rattle.std.specs.Prelude.{◌≡◌, ◌||◌, ◌+◌, ◌*◌, ◌≤◌, Ok, Err}
use Rattle.format.specs.Kit.{true, false, List, map, ℕ, length}
use Rattle.format.specs.Limits.{block_places, max_block}
use Rattle.format.specs.Refusals.{Outcome, done, and_then}
use Rattle.answers.specs.Replies.{refused_as}
use Rattle.format.specs.Ids.{Run, count_below}
use Rattle.format.specs.IdsRead.{ids_of}
use Rattle.format.specs.Walk.{listed}
use Rattle.format.specs.SetCalls.{list_length_ok, set_data_ok, blocks_from, set_ids}
use Rattle.answers.specs.declared.Refusal.{Refusal}
use Rattle.set_blocks.specs.Kinds.{kind_number}
use Rattle.set_blocks.specs.Found.{places_of}
use Rattle.set_blocks.specs.declared.SetBlock.{SetBlock}
use Rattle.set_check.specs.declared.Place.{Place}
use Rattle.set_check.specs.declared.Tally.{Tally}
use Rattle.std.specs.declared.result.Result.{Result}

-- ---- one block

-- a block that passed its tests
pub record Sound (s : List ℕ) (b : SetBlock) : Type 0 where
  pub long_is : list_length_ok (kind_number b.kind) b.long ≡ true
  pub data_is : set_data_ok (kind_number b.kind) b.long s b.start ≡ true

-- and has its count
pub record Full (s : List ℕ) (b : SetBlock) : Type 0 where
  pub count_is : b.count ≡ length (places_of s b)
  pub count_le : b.count ≤ block_places
  pub number_le : b.block ≤ max_block

-- what a list of places says of a place r
pub record Placed (r : ℕ) (rs : List ℕ) (p : Place) : Type 0 where
  pub below_is : p.below ≡ count_below r rs
  pub there_is : p.there ≡ listed r rs

-- its ids
abbrev pub ids_in : List ℕ → SetBlock → List ℕ
ids_in s b = map (λ r. b.block * block_places + r) (places_of s b)

-- ---- the tally

-- with a block's ids more
pub record Added (s : List ℕ) (b : SetBlock) (id : ℕ) (t r : Tally) : Type 0 where
  pub count_is : r.count ≡ t.count + length (places_of s b)
  pub below_is : r.below ≡ t.below + count_below id (ids_in s b)
  pub there_is : r.there ≡ t.there || listed id (ids_in s b)
  pub below_le : r.below ≤ r.count

-- of nothing, and with the ids of runs more
abbrev pub nothing : Tally
nothing = record { count = 0; below = 0; there = false }

abbrev pub onto : ℕ → Tally → List Run → Tally
onto id t gs =
    record {
      count = t.count + length (ids_of gs);
      below = t.below + count_below id (ids_of gs);
      there = t.there || listed id (ids_of gs);
    }

-- from m blocks at a place on
unfoldable pub walked_from : List ℕ → ℕ → ℕ → ℕ → ℕ → Tally → Outcome Tally
walked_from s id m next at t = and_then (blocks_from m next s at) (λ gs. done (onto id t gs))

-- of the list that the bytes hold
abbrev pub tally_of : ℕ → List ℕ → Tally
tally_of id ids = record { count = length ids; below = count_below id ids; there = listed id ids }

unfoldable pub tallied : List ℕ → ℕ → Outcome Tally
tallied s id = and_then (set_ids s) (λ ids. done (tally_of id ids))

-- ---- the code's answers

abbrev pub walked_of : Result Tally Refusal → Outcome Tally
walked_of (Ok t) = done t
walked_of (Err why) = refused_as why
