-- The editions: the number of each, which is the first header number, and its codec. Assumes nothing.
use Rattle.std.specs.Prelude.{◌≡◌, ◌^◌, ◌||◌, ◌∷◌}
use Rattle.format.specs.Kit.{ℕ, Bool, false, cond, List, [], Option, none, some, leb, ltb, eqb}
use Rattle.format.specs.Limits.{max_width}
use Rattle.format.specs.Bits.{packed, fetched}
use Rattle.format.specs.BitsLow.{packed_low, fetched_low}
use Rattle.format.specs.Values.{bit_length}
use Rattle.format.specs.Codec.{Codec, Packing, scaled}
use Rattle.format.specs.ValueRuns.{in_runs}
use Rattle.format.specs.Table.{tabled}

-- document 01's, edition 1; Lucene 9's packing, edition 2 (document 02, [6]); values in runs, edition 3 ([11]); a table of few distinct values,
-- edition 4 ([12])
pub data Edition : Type 0 where
  plain lucene runs table : Edition

unfoldable pub number_of : Edition → ℕ
number_of plain = 1
number_of lucene = 2
number_of runs = 3
number_of table = 4

-- all of them
unfoldable pub editions : List Edition
editions = plain ∷ lucene ∷ runs ∷ table ∷ []

-- the edition of a number, among those that a reader knows
unfoldable pub edition_in : List Edition → ℕ → Option Edition
edition_in [] k = none
edition_in (ed ∷ eds) k = cond (eqb k (number_of ed)) (some ed) (edition_in eds k)

-- a reader of these editions takes this one
abbrev pub Knows : List Edition → Edition → Type 0
Knows known ed = edition_in known (number_of ed) ≡ some ed

-- ---- edition 1 (document 01, "Value section"): the least width, at most 64; a value's bits run high bit first

unfoldable pub high_first : Packing
high_first = record { width_for = bit_length; width_ok = λ w. leb w max_width; pack = packed; fetch = fetched }

-- ---- edition 2 (document 02, [6]): the least of Lucene 9's widths that suffices; a value's bits run low bit first

-- 0 as before
unfoldable pub lucene_widths : List ℕ
lucene_widths = 0 ∷ 1 ∷ 2 ∷ 4 ∷ 8 ∷ 12 ∷ 16 ∷ 20 ∷ 24 ∷ 28 ∷ 32 ∷ 40 ∷ 48 ∷ 56 ∷ 64 ∷ []

-- the first of some widths that suffices: q < 2 ^ w
unfoldable pub first_enough : List ℕ → ℕ → ℕ
first_enough [] q = max_width
first_enough (w ∷ ws) q = cond (ltb q (2 ^ w)) w (first_enough ws q)

unfoldable pub among : List ℕ → ℕ → Bool
among [] w = false
among (x ∷ xs) w = eqb x w || among xs w

unfoldable pub low_first : Packing
low_first = record { width_for = first_enough lucene_widths; width_ok = among lucene_widths; pack = packed_low; fetch = fetched_low }

-- ---- the codec of an edition

unfoldable pub codec : Edition → Codec
codec plain = scaled high_first
codec lucene = scaled low_first
codec runs = in_runs
codec table = tabled (scaled high_first)
