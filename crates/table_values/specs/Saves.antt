-- Whether a table saves bytes, told from the table and n alone: edition 1 says of values what it says of their table. Assumes nothing.
use Rattle.format.specs.Kit.{ℕ, Bool, List, length, ltb, ℤ}
use Rattle.format.specs.Bits.{packed_bytes}
use Rattle.format.specs.Codec.{Fields}
use Rattle.format.specs.Editions.{plain, codec}
use Rattle.format.specs.Table.{table_fields, table_bytes, value_share}

unfoldable pub saves : List ℤ → ℕ → Bool
saves us n =
    let f : Fields = (codec plain).fields us in
    ltb (value_share (table_fields (length us)) (table_bytes (length us) n)) (value_share f (packed_bytes n f.width))
