-- Blocks that the section can hold, and what they add up to. Assumes nothing.
use Rattle.std.specs.Prelude.{◌+◌, ◌-◌, ◌^◌, ◌≤◌, ◌<◌, ◌∷◌}
use Rattle.format.specs.Kit.{ℕ, zero, suc, List, [], length}
use Rattle.format.specs.Limits.{block_places, max_block}
use Rattle.format.specs.Ids.{Run, block_bytes}
use Rattle.format.specs.Pairs.{Asc, Below}

-- a block of ids within the limit: ascending places, one at least
pub record Fine (g : Run) : Type 0 where
  pub number : g.block < suc max_block
  pub some_place : zero < length g.places
  pub ascending : Asc 0 g.places
  pub inside : Below block_places g.places

abbrev pub AllFine : List Run → Type 0
AllFine [] = Unit {0}
AllFine (g ∷ gs) = Fine g × AllFine gs

-- block numbers ascend, from a on
abbrev pub AscBlocks : ℕ → List Run → Type 0
AscBlocks a [] = Unit {0}
AscBlocks a (g ∷ gs) = (a ≤ g.block) × AscBlocks (suc g.block) gs

-- the number after the last block
unfoldable pub end_of : ℕ → List Run → ℕ
end_of next [] = next
end_of next (g ∷ gs) = end_of (suc g.block) gs

-- the bytes of all blocks
unfoldable pub total_bytes : ℕ → List Run → ℕ
total_bytes p [] = 0
total_bytes p (g ∷ gs) = block_bytes p (length g.places) + total_bytes p gs

-- the places as a number whose lowest bit stands for place x
unfoldable pub bits_above : ℕ → List ℕ → ℕ
bits_above x [] = 0
bits_above x (r ∷ rs) = 2 ^ (r - x) + bits_above x rs
