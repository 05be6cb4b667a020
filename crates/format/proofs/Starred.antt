-- The starred cases of document 01, "Both sides of each line", as one statement about the definitions. Assumes nothing.
use Rattle.format.specs.Kit.{◌≡◌, refl, List, [], ◌∷◌, ◌++◌, ℕ, ◌^◌, ◌-◌, ◌≤◌, le-leb, length, take, replicate, pos, negsuc}
use Rattle.format.specs.Refusals.{done, refused, and_then, need, given, need_none, SHORT, NUMBER, ORDER, RANGE}
use Rattle.format.specs.HeaderNumbers.{number, zigzag}
use Rattle.format.specs.Bits.{packed}
use Rattle.format.specs.Ids.{rank_table}
use Rattle.format.specs.Values.{spread, divisor, width}
use Rattle.format.specs.Editions.{plain, editions, number_of, edition_in, codec}
use Rattle.format.specs.Codec.{scaled}
use Rattle.format.specs.Plan.{chosen}
use Rattle.format.specs.Column.{column}
use Rattle.format.specs.Writer.{not_above, order_fault, range_fault, write_if, write_as, write}
use Rattle.format.specs.Check.{check}
use Rattle.format.proofs.Computing.{computing}

-- the column of the greatest id alone
abbrev pub last_column : List ℕ
last_column = column plain 9 (2147352575 ∷ []) (pos 0 ∷ [])

pub record Starred : Type 0 where
  -- ids 0, 2, 7; values 150, 140, 135; p 9. Whole column, 27 bytes: 01 03 09 10 00 02 8E 02 05 01 00 00 02 00 00 00 02 00 07 00
  -- FF 7F 00 00 FF FF D0
  pub three : column plain 9 (0 ∷ 2 ∷ 7 ∷ []) (pos 150 ∷ pos 140 ∷ pos 135 ∷ [])
      ≡ 0x01 ∷ 0x03 ∷ 0x09 ∷ 0x10 ∷ 0x00 ∷ 0x02 ∷ 0x8E ∷ 0x02 ∷ 0x05 ∷ 0x01 ∷ 0x00 ∷ 0x00 ∷ 0x02 ∷ 0x00 ∷ 0x00 ∷ 0x00 ∷ 0x02
      ∷ 0x00 ∷ 0x07 ∷ 0x00 ∷ 0xFF ∷ 0x7F ∷ 0x00 ∷ 0x00 ∷ 0xFF ∷ 0xFF ∷ 0xD0 ∷ []
  pub three_bytes : length (column plain 9 (0 ∷ 2 ∷ 7 ∷ []) (pos 150 ∷ pos 140 ∷ pos 135 ∷ [])) ≡ 27
  -- no pairs, p 9, 23 bytes: 01 00 09 0E 01 00 00 01 00 FF 7F 00 00 FF FF, then eight 00
  pub empty : column plain 9 [] []
      ≡ (0x01 ∷ 0x00 ∷ 0x09 ∷ 0x0E ∷ 0x01 ∷ 0x00 ∷ 0x00 ∷ 0x01 ∷ 0x00 ∷ 0xFF ∷ 0x7F ∷ 0x00 ∷ 0x00 ∷ 0xFF ∷ 0xFF ∷ [])
      ++ replicate 8 0
  pub empty_bytes : length (column plain 9 [] []) ≡ 23
  -- id 65536, value -1, p 0, 45 bytes: 01 01 00 24 03 00 01 01 00 01 00 00 00 00 00 FF 7F 00 00 FF FF, sixteen 00, 01 00 00 00 06
  -- 00 00 00
  pub second : column plain 0 (65536 ∷ []) (negsuc 0 ∷ [])
      ≡ (0x01 ∷ 0x01 ∷ 0x00 ∷ 0x24 ∷ 0x03 ∷ 0x00 ∷ 0x01 ∷ 0x01 ∷ 0x00 ∷ 0x01 ∷ 0x00 ∷ 0x00 ∷ 0x00 ∷ 0x00 ∷ 0x00 ∷ 0xFF ∷ 0x7F
      ∷ 0x00 ∷ 0x00 ∷ 0xFF ∷ 0xFF ∷ [])
      ++ replicate 16 0 ++ (0x01 ∷ 0x00 ∷ 0x00 ∷ 0x00 ∷ 0x06 ∷ 0x00 ∷ 0x00 ∷ 0x00 ∷ [])
  pub second_bytes : length (column plain 0 (65536 ∷ []) (negsuc 0 ∷ [])) ≡ 45
  -- stored numbers 1, 1, 1, 0, 2, 2, 0, 0 at width 2: 54 A0 (001)
  pub pack : packed 2 (1 ∷ 1 ∷ 1 ∷ 0 ∷ 2 ∷ 2 ∷ 0 ∷ 0 ∷ []) ≡ 0x54 ∷ 0xA0 ∷ []
  -- differences 15 with g 5: w 2 (004)
  pub fifteen : spread (pos 150 ∷ pos 140 ∷ pos 135 ∷ []) ≡ 15
  pub fifteen_divisor : divisor (pos 150 ∷ pos 140 ∷ pos 135 ∷ []) ≡ 5
  pub fifteen_width : width (pos 150 ∷ pos 140 ∷ pos 135 ∷ []) ≡ 2
  -- 2997 with g 1: w 12 (004)
  pub large : spread (pos 3 ∷ pos 3000 ∷ pos 4 ∷ []) ≡ 2997
  pub large_divisor : divisor (pos 3 ∷ pos 3000 ∷ pos 4 ∷ []) ≡ 1
  pub large_width : width (pos 3 ∷ pos 3000 ∷ pos 4 ∷ []) ≡ 12
  -- smallest possible value: header number FF nine times, then 01
  pub lowest : number (zigzag (negsuc (2 ^ 63 - 1))) ≡ replicate 9 0xFF ++ (0x01 ∷ [])
  -- strides holding 5, 1 and 2 ones: the first three rank entries are 00 00 00 05 00 06
  pub ranks : take 6 (rank_table 9 (0 ∷ 1 ∷ 2 ∷ 3 ∷ 4 ∷ 512 ∷ 1024 ∷ 1025 ∷ [])) ≡ 0x00 ∷ 0x00 ∷ 0x00 ∷ 0x05 ∷ 0x00 ∷ 0x06 ∷ []
  -- header number 80 00: NUMBER, at byte 1 (document 02, [4])
  pub not_minimal : check editions (0x80 ∷ 0x00 ∷ []) ≡ refused NUMBER 1
  -- 80 alone: SHORT, of 1 byte
  pub cut : check editions (0x80 ∷ []) ≡ refused SHORT 1
  -- ids 4, 4: ORDER, index 1
  pub order : (room : ℕ) → write 1 9 (4 ∷ 4 ∷ []) (pos 0 ∷ pos 0 ∷ []) room ≡ refused ORDER 1
  -- id 2147352576 alone: RANGE, index 0
  pub range : (room : ℕ) → write 1 9 (2147352576 ∷ []) (pos 0 ∷ []) room ≡ refused RANGE 0
  -- 2147352575 is taken, wherever there is room for its column
  pub taken : (room : ℕ) → length last_column ≤ room → write 1 9 (2147352575 ∷ []) (pos 0 ∷ []) room ≡ done last_column

-- last_column stays shut: it has 32767 jump entries
last_taken : (room : ℕ) → length last_column ≤ room → write 1 9 (2147352575 ∷ []) (pos 0 ∷ []) room ≡ done last_column
unfolding and_then need given need_none not_above order_fault range_fault write_if write_as write number_of editions edition_in codec scaled chosen
last_taken room h = rw (le-leb (length last_column) room h)

pub starred : Starred
unfolding computing
starred =
    record {
      three = refl;
      three_bytes = refl;
      empty = refl;
      empty_bytes = refl;
      second = refl;
      second_bytes = refl;
      pack = refl;
      fifteen = refl;
      fifteen_divisor = refl;
      fifteen_width = refl;
      large = refl;
      large_divisor = refl;
      large_width = refl;
      lowest = refl;
      ranks = refl;
      not_minimal = refl;
      cut = refl;
      order = λ room. refl;
      range = λ room. refl;
      taken = last_taken;
    }
