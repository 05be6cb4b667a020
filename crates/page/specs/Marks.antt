-- Where an id stands, and what is left of the look-up's steps then. Assumes nothing.
use Rattle.std.specs.Prelude.{◌≡◌, ◌+◌, ◌/◌, ◌%◌, ◌≤◌, ◌<◌}
use Rattle.format.specs.Kit.{List, Option, ℕ, ℤ, length}
use Rattle.format.specs.Limits.{block_places}
use Rattle.format.specs.Refusals.{Outcome, done, refused, and_then, given, BROKEN}
use Rattle.format.specs.Ids.{kind_of, data_bytes}
use Rattle.format.specs.Opening.{Opened, id_part, value_of}
use Rattle.format.specs.LookUp.{Look, found, absent, Place, inside, nowhere, broken, halved, place_at, answer, steps}
use Rattle.blocks.specs.Kinds.{kind_is}
use Rattle.blocks.specs.declared.Block.{Block}
use Rattle.lookup.specs.declared.Step as St
use Rattle.page.specs.declared.marks.Mark as Ma

-- ---- a mark

-- a place of a block with o ids before it
abbrev pub mark_of : ℕ → Place → Ma.Mark
mark_of o (inside i w) = Ma.Mark.At (o + i) w
mark_of o (nowhere w) = Ma.Mark.Absent w
mark_of o broken = Ma.Mark.Broken

-- step 7, from there
abbrev pub with_value : Option ℤ → ℕ → ℕ → Outcome Look
with_value v x w = and_then (given v BROKEN 0) (λ z. done (found x z w))

abbrev pub marked : List ℕ → Opened → Ma.Mark → Outcome Look
marked bytes c (Ma.Mark.At x w) = with_value (value_of bytes c x) x w
marked bytes c (Ma.Mark.Absent w) = done (absent w)
marked bytes c Ma.Mark.Broken = refused BROKEN 0

-- an ordinal is below n
abbrev pub Listed : ℕ → Ma.Mark → Type 0
Listed n (Ma.Mark.At x w) = x < n
Listed n (Ma.Mark.Absent w) = Unit
Listed n Ma.Mark.Broken = Unit

-- ---- what steps 1 to 4 give for block b of a column, told of each of its ids (of 32 bits)

pub record InBlock (bytes : List ℕ) (c : Opened) (b : ℕ) (k : Block) : Type 0 where
  pub steps_left : (id : ℕ) → id < 4294967296 → id / block_places ≡ b
      → steps halved bytes c id
      ≡ answer bytes c k.ordinal (place_at halved c.head.power (id_part bytes c) k.start k.count (id % block_places))
  pub kind : kind_is k.kind ≡ kind_of k.count
  pub some : 0 < k.count
  pub data_end : k.start + data_bytes c.head.power k.count ≤ length (id_part bytes c)
  pub last : k.ordinal + k.count ≤ c.head.count

abbrev pub BlockIs : List ℕ → Opened → ℕ → St.Step → Type 0
BlockIs bytes c b (St.Step.At k) = InBlock bytes c b k
BlockIs bytes c b St.Step.Absent = (id : ℕ) → id < 4294967296 → id / block_places ≡ b → steps halved bytes c id ≡ done (absent 0)
BlockIs bytes c b St.Step.Broken = (id : ℕ) → id < 4294967296 → id / block_places ≡ b → steps halved bytes c id ≡ refused BROKEN 0
