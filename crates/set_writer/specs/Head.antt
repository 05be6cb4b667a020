-- The three numbers of the block that the ids of one block make. Assumes nothing.
use Rattle.std.specs.Prelude.{◌≡◌, ◌++◌, ◌-◌, ◌≤◌}
use Rattle.format.specs.Kit.{List, ℕ, zero, suc, length}
use Rattle.format.specs.Limits.{block_places, max_listed}
use Rattle.format.specs.HeaderNumbers.{number}
use Rattle.format.specs.SetBytes.{set_kind}
use Rattle.block_writer.specs.Part.{run_of}
use Rattle.set_blocks.specs.Kinds.{kind_number}
use Rattle.set_writer.specs.declared.Head.{Head}

-- how long the list of a block of n ids is, by its kind
unfoldable pub list_long : ℕ → ℕ → ℕ
list_long zero n = n
list_long (suc zero) n = block_places - n
list_long (suc (suc t)) n = 0

abbrev pub head_bytes : Head → List ℕ
head_bytes h = number h.block ++ (number (kind_number h.kind) ++ number h.long)

pub record HeadOf (xs : List ℕ) (h : Head) : Type 0 where
  pub block_is : h.block ≡ (run_of xs).block
  pub kind_is_is : kind_number h.kind ≡ set_kind (length xs)
  pub long_is : h.long ≡ list_long (kind_number h.kind) (length xs)
  pub long_le : h.long ≤ max_listed
