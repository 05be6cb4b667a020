-- Document 02, [12], the values of edition 4: a table of the distinct values, ascending, 8 bytes each, low first, two's complement, then a code
-- for each value, its place in the table, high bit first, at the least width for the last code. Assumes nothing.
use Rattle.std.specs.Prelude.{◌+◌, ◌-◌, ◌*◌, ◌&&◌, ◌||◌, ◌∷◌, ◌++◌}
use Rattle.format.specs.Kit.{ℕ, suc, Bool, true, false, cond, List, [], map, Option, none, length, drop}
use Rattle.format.specs.Kit.{leb, ltb, eqb, ℤ, le_z, lt_z}
use Rattle.format.specs.Bytes.{bytes_of, low, low_at, twos, untwos}
use Rattle.format.specs.HeaderNumbers.{number}
use Rattle.format.specs.Bits.{packed, packed_bytes, fetched}
use Rattle.format.specs.Values.{bit_length}
use Rattle.format.specs.Codec.{Fields, Codec, signed64}

-- the least and the greatest number of a table's entries, T
abbrev pub min_entries : ℕ
min_entries = 2

abbrev pub max_entries : ℕ
max_entries = 256

-- ---- the distinct values, ascending

-- v put into an ascending list, once
unfoldable pub insert : ℤ → List ℤ → List ℤ
insert v [] = v ∷ []
insert v (u ∷ us) =
    let more : List ℤ = u ∷ insert v us in
    cond (lt_z u v) more (cond (lt_z v u) (v ∷ u ∷ us) (u ∷ us))

-- each value in turn
unfoldable pub insert_all : List ℤ → List ℤ → List ℤ
insert_all us [] = us
insert_all us (v ∷ vs) = insert_all (insert v us) vs

unfoldable pub table_of : List ℤ → List ℤ
table_of vs = insert_all [] vs

-- a value's place in an ascending list: that of the first entry which is not below it
unfoldable pub code_in : List ℤ → ℤ → ℕ
code_in [] v = 0
code_in (u ∷ us) v =
    let more : ℕ = suc (code_in us v) in
    cond (lt_z u v) more 0

-- ---- what a column with this table holds

-- the least width for the last code of T entries
abbrev pub code_width : ℕ → ℕ
code_width t = bit_length (t - 1)

-- header smallest is 0 and g holds the table's count T
unfoldable pub table_fields : ℕ → Fields
table_fields t = record { width = code_width t; smallest = 0; divisor = t }

unfoldable pub table_entry : ℤ → List ℕ
table_entry v = low 8 (twos v)

unfoldable pub table_section : List ℤ → List ℤ → List ℕ
table_section us vs = bytes_of table_entry us ++ packed (code_width (length us)) (map (code_in us) vs)

-- V = 8T + code bytes, of n values
abbrev pub table_bytes : ℕ → ℕ → ℕ
table_bytes t n = 8 * t + packed_bytes n (code_width t)

-- step 7, of T entries and codes of w bits: the table's entry at the code; a code of T or more is none, which is BROKEN
unfoldable pub table_value : ℕ → ℕ → List ℕ → ℕ → Option ℤ
table_value t w s i =
    let x : ℕ = fetched (drop (8 * t) s) w i in
    cond (ltb x t) (signed64 (untwos (low_at 8 s (8 * x)))) none

-- ---- the small check

-- each value is above the one before, a the first
unfoldable pub ascends_from : ℤ → List ℤ → Bool
ascends_from a [] = true
ascends_from a (u ∷ us) = lt_z a u && ascends_from u us

unfoldable pub ascends : List ℤ → Bool
ascends [] = true
ascends (u ∷ us) = ascends_from u us

-- v is one of us
unfoldable pub is_in : List ℤ → ℤ → Bool
is_in [] v = false
is_in (u ∷ us) v = (le_z u v && le_z v u) || is_in us v

-- each of vs is one of us
unfoldable pub all_in : List ℤ → List ℤ → Bool
all_in us [] = true
all_in us (v ∷ vs) = is_in us v && all_in us vs

-- The bytes of a column that its values decide: the header's w, smallest, g and V, and the value section, V bytes long. All other bytes of a
-- column are the same in each edition (`shorter-column`).
unfoldable pub value_share : Fields → ℕ → ℕ
value_share f v = length (bytes_of number (f.width ∷ f.smallest ∷ f.divisor ∷ v ∷ [])) + v

-- the column with this table is shorter than that of the codec `other`
unfoldable pub shorter : Codec → List ℤ → List ℤ → Bool
shorter other us vs = ltb (value_share (table_fields (length us)) (length (table_section us vs))) (value_share (other.fields vs) (length (other.section vs)))

-- 2 to 256 entries, strictly ascending, holds every value, no unused entry, and the column is shorter
unfoldable pub table_ok : Codec → List ℤ → List ℤ → Bool
table_ok other us vs =
    leb min_entries (length us) && leb (length us) max_entries && ascends us && all_in us vs && all_in vs us && shorter other us vs

-- ---- the codec, over the one whose columns its own must be shorter than

-- another T, w or smallest is HEADER
unfoldable pub tabled : Codec → Codec
tabled other =
    record {
      takes = λ vs. table_ok other (table_of vs) vs;
      fields = λ vs. table_fields (length (table_of vs));
      section = λ vs. table_section (table_of vs) vs;
      fields_ok = λ n f v.
          leb min_entries f.divisor && leb f.divisor max_entries && eqb f.width (code_width f.divisor) && eqb f.smallest 0
          && eqb v (table_bytes f.divisor n);
      value = λ n f s i. table_value f.divisor f.width s i;
    }
