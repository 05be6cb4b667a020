-- The tests of an opened column: its id section is judged with the header's numbers, then its value section is tested.
-- Assumes nothing.
use Rattle.std.specs.Prelude.{◌&&◌}
use Rattle.format.specs.Kit.{ℕ, Bool, true, false, List, eqb}
use Rattle.format.specs.Refusals.{Outcome, done, refused}
use Rattle.format.specs.Pairs.{Pairs}
use Rattle.format.specs.Column.{Head}
use Rattle.format.specs.Opening.{Opened, id_part, value_part}
use Rattle.format.specs.Orders.{low_byte}
use Rattle.format.specs.Judge.{judge}
use Rattle.values.specs.Edition.{tests}

-- the judge accepts n ids
unfoldable pub holds : ℕ → Outcome ℕ → Bool
holds n (done m) = eqb m n
holds n (refused why at) = false

unfoldable pub ids_ok : Head → List ℕ → Bool
ids_ok h s = holds h.count (judge low_byte h.power h.jump_count s)

unfoldable pub column_ok : List ℕ → Opened → Bool
column_ok bytes c =
    ids_ok c.head (id_part bytes c) && tests c.head.edition c.head.count c.head.fields (value_part bytes c)

-- whether the definition accepts
unfoldable pub is_taken : Outcome Pairs → Bool
is_taken (done q) = true
is_taken (refused why w) = false
