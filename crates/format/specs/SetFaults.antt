-- Document 02, [14]: what the refusals of a set's bytes say of them. "The first fault in byte order decides; each number is read, then at once held to its
-- limits", "7 and 8 with [4]'s numbers", "Other faults and left-over bytes are 13." Assumes nothing.
use Rattle.std.specs.Prelude.{◌+◌, ◌≤◌, ◌<◌, ◌≡◌, ◌++◌}
use Rattle.format.specs.Kit.{ℕ, List, length, drop}
use Rattle.format.specs.Limits.{max_block, max_blocks, max_kind}
use Rattle.format.specs.Bytes.{bytes_of}
use Rattle.format.specs.HeaderNumbers.{number}
use Rattle.format.specs.Ids.{Run}
use Rattle.format.specs.Runs.{AllFine, AscBlocks, end_of}
use Rattle.format.specs.SetBytes.{set_block}
use Rattle.format.specs.Lists.{SetOf}
use Rattle.format.specs.Faults.{Begun, BadBytes}

-- ---- all before a number is sound

-- from a place on, whole blocks of a list stand up to another, numbered `next` or above, fewer than m
pub record BlocksTo (bytes : List ℕ) (m next at to after : ℕ) : Type 0 where
  pub blocks : List Run
  pub fine : AllFine blocks
  pub ascending : AscBlocks next blocks
  pub fewer : length blocks < m
  pub bytes_are : drop at bytes ≡ bytes_of set_block blocks ++ drop to bytes
  pub place : to ≡ at + length (bytes_of set_block blocks)
  pub last : after ≡ end_of next blocks

-- a block that is to be numbered `next` or above starts at a place, and one of its numbers is due at `place`: the block's, its kind, its list length
pub data InBlock (bytes : List ℕ) (next start place : ℕ) : Type 0 where
  its_number : place ≡ start → InBlock bytes next start place
  its_kind : (k : ℕ) → next ≤ k → k ≤ max_block → drop start bytes ≡ number k ++ drop place bytes → place ≡ start + length (number k)
      → InBlock bytes next start place
  its_length : (k t : ℕ) → next ≤ k → k ≤ max_block → t ≤ max_kind → drop start bytes ≡ number k ++ (number t ++ drop place bytes)
      → place ≡ start + length (number k) + length (number t) → InBlock bytes next start place

-- a number is due at a place, and all before it is sound: the number of blocks, whole blocks, and the block's numbers before it, each within its limits
pub data Due (bytes : List ℕ) (place : ℕ) : Type 0 where
  block_count : place ≡ 0 → Due bytes place
  in_block : (m start after : ℕ) → m ≤ max_blocks → bytes ≡ number m ++ drop (length (number m)) bytes
      → BlocksTo bytes m 0 (length (number m)) start after → InBlock bytes after start place → Due bytes place

-- ---- the refusals

-- NUMBER: the number that is due is none, by its byte at place w
pub record BrokenAt (bytes : List ℕ) (w : ℕ) : Type 0 where
  pub at : ℕ
  pub due : Due bytes at
  pub index : ℕ
  pub bad : BadBytes (drop at bytes) index
  pub place : at + index ≡ w

-- SHORT: the bytes, w of them, end within the number that is due, or before it
pub record EndsAt (bytes : List ℕ) (w : ℕ) : Type 0 where
  pub at : ℕ
  pub due : Due bytes at
  pub begun : Begun (drop at bytes)
  pub count : w ≡ length bytes

-- DAMAGED: the bytes are no list's, and each number that is due is one
pub record Otherwise (bytes : List ℕ) : Type 0 where
  pub no_list : (n : ℕ) → SetOf bytes n → ⊥
  pub not_broken : (w : ℕ) → BrokenAt bytes w → ⊥
  pub not_ended : (w : ℕ) → EndsAt bytes w → ⊥
