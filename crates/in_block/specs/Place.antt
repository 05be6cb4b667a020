-- What the code's answers on a place of a block stand for, and what a caller may count on. Assumes nothing.
use Rattle.std.specs.Prelude.{◌≡◌, ◌+◌, ◌*◌, ◌<◌}
use Rattle.format.specs.Kit.{Option, none, some, ℕ}
use Rattle.format.specs.Limits.{block_places}
use Rattle.format.specs.LookUp.{Place, inside, nowhere, broken, Sought, in_sparse}
use Rattle.in_block.specs.declared.Inner as In

abbrev pub place_of : In.Inner → Place
place_of (In.Inner.At i w n) = inside i w
place_of (In.Inner.Absent w n) = nowhere w
place_of In.Inner.Broken = broken

-- the entries probed
abbrev pub probes_of : In.Inner → ℕ
probes_of (In.Inner.At i w n) = n
probes_of (In.Inner.Absent w n) = n
probes_of In.Inner.Broken = 0

-- an inner place is below the block's count
abbrev pub Below : ℕ → In.Inner → Type 0
Below c (In.Inner.At i w n) = i < c
Below c (In.Inner.Absent w n) = Unit
Below c In.Inner.Broken = Unit

-- what halving a sparse block's entries tells, in one word: 16 times the index, or times 65536 where there is none, and the probes
abbrev pub index_or : Option ℕ → ℕ
index_or (some i) = i
index_or none = block_places

abbrev pub in_one_word : Sought → ℕ
in_one_word h = 16 * index_or h.index + h.probes

-- and as an answer
abbrev pub Searched : Sought → In.Inner → Type 0
Searched h a = (place_of a ≡ in_sparse h.index) × (probes_of a ≡ h.probes)
