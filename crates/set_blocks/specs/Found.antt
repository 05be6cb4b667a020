-- The code's answers on one block as the definitions' ones. Assumes nothing.
use Rattle.std.specs.Prelude.{◌≡◌}
use Rattle.format.specs.Kit.{List, ℕ, length, drop}
use Rattle.format.specs.Refusals.{Outcome, done}
use Rattle.answers.specs.Replies.{refused_as}
use Rattle.format.specs.SetCalls.{SetHead, set_places}
use Rattle.set_blocks.specs.Kinds.{kind_number}
use Rattle.set_blocks.specs.declared.SetBlock.{SetBlock}
use Rattle.std.specs.Prelude.{Ok, Err}
use Rattle.std.specs.declared.result.Result.{Result}
use Rattle.answers.specs.declared.Refusal.{Refusal}

-- a block without its count
abbrev pub head_in : SetBlock → SetHead
head_in b = record { block = b.block; kind = kind_number b.kind; long = b.long; start = b.start }

abbrev pub head_of : Result SetBlock Refusal → Outcome SetHead
head_of (Ok b) = done (head_in b)
head_of (Err why) = refused_as why

-- the places that its data hold
abbrev pub places_of : List ℕ → SetBlock → List ℕ
places_of s b = set_places (kind_number b.kind) b.long (drop b.start s)

-- its count is that of its places
abbrev pub Counted : List ℕ → Result SetBlock Refusal → Type 0
Counted s (Ok b) = b.count ≡ length (places_of s b)
Counted s (Err why) = Unit {0}
