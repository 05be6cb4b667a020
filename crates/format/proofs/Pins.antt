-- Refusals 1 to 12 on both sides of their lines, as one computed table: the writer, the header, the lengths, the buffers; and the values' divisor.
-- (13 to 15 stand in PinsSteps.antt.) `search` makes a table by computing each case; a refusal names those that fail. Assumes nothing.
use Rattle.format.specs.Kit.{◌≡◌, List, [], ◌∷◌, ◌++◌, ℕ, ◌^◌, ◌-◌, take, replicate, ℤ, pos, negsuc}
use Rattle.format.specs.Refusals.{done, refused, given, LENGTHS, POWER, ORDER, RANGE, ROOM, SHORT, NUMBER, EDITION, HEADER, LENGTH, BUFFER, DAMAGED}
use Rattle.format.specs.Bytes.{bytes_of}
use Rattle.format.specs.HeaderNumbers.{number, got, read_number, bad}
use Rattle.format.specs.Ids.{block_bytes, end_block, jumps}
use Rattle.format.specs.Values.{divisor, width, stored}
use Rattle.format.specs.Editions.{editions}
use Rattle.format.specs.Writer.{write, write_reply}
use Rattle.format.specs.Check.{check, reading}
use Rattle.format.proofs.Computing.{computing}

-- ---- bytes

-- a header of these nine numbers, and what follows it
unfoldable pub headed : List ℕ → List ℕ → List ℕ
headed ns after = bytes_of number ns ++ after

-- the id section of ids 0, 2, 7, which is 16 bytes long, and the value section of 150, 140, 135, one byte
unfoldable pub section : List ℕ
section = 0 ∷ 0 ∷ 2 ∷ 0 ∷ 0 ∷ 0 ∷ 2 ∷ 0 ∷ 7 ∷ 0 ∷ 0xFF ∷ 0x7F ∷ 0 ∷ 0 ∷ 0xFF ∷ 0xFF ∷ []

unfoldable pub sections : List ℕ
sections = section ++ (0xD0 ∷ [])

-- document 01's first column, with rank power p
unfoldable pub three : ℕ → List ℕ
three p = headed (1 ∷ 3 ∷ p ∷ 16 ∷ 0 ∷ 2 ∷ 270 ∷ 5 ∷ 1 ∷ []) sections

-- the same at p 9 with a spare bit set: no column
unfoldable pub spare_set : List ℕ
spare_set = headed (1 ∷ 3 ∷ 9 ∷ 16 ∷ 0 ∷ 2 ∷ 270 ∷ 5 ∷ 1 ∷ []) (section ++ (0xD1 ∷ []))

-- the column of no pairs, with L and J given, and l bytes for the id section
unfoldable pub no_pairs : ℕ → ℕ → ℕ → List ℕ
no_pairs l j given = headed (1 ∷ 0 ∷ 9 ∷ l ∷ j ∷ 0 ∷ 0 ∷ 1 ∷ 0 ∷ []) (take given (end_block ++ replicate 16 0))

-- ---- the writer

pub record WriterCases : Type 0 where
  -- 1: ids and values differ in count; it comes before 2
  pub more_values : write 1 9 [] (pos 1 ∷ []) 100 ≡ refused LENGTHS 0
  pub more_ids : write 1 9 (0 ∷ []) [] 100 ≡ refused LENGTHS 0
  pub lengths_before_power : write 1 6 [] (pos 1 ∷ []) 100 ≡ refused LENGTHS 0
  -- 2: p 6 and 16, and the sides that are taken; it comes before 3
  pub power_1 : write 1 1 [] [] 100 ≡ refused POWER 0
  pub power_6 : write 1 6 [] [] 100 ≡ refused POWER 0
  pub power_16 : write 1 16 [] [] 100 ≡ refused POWER 0
  pub power_0 : write_reply (write 1 0 [] [] 100) ≡ done 23
  pub power_7 : write_reply (write 1 7 [] [] 100) ≡ done 23
  pub power_15 : write_reply (write 1 15 [] [] 100) ≡ done 23
  pub power_before_order : write 1 6 (4 ∷ 4 ∷ []) (pos 0 ∷ pos 0 ∷ []) 100 ≡ refused POWER 0
  -- 3: the first id that is not above the one before; over the whole list before 4
  pub falls : write 1 9 (3 ∷ 5 ∷ 4 ∷ 4 ∷ []) (pos 0 ∷ pos 0 ∷ pos 0 ∷ pos 0 ∷ []) 100 ≡ refused ORDER 2
  pub order_before_range : write 1 9 (2147352576 ∷ 5 ∷ []) (pos 0 ∷ pos 0 ∷ []) 100 ≡ refused ORDER 1
  -- 4: the first id above its limit; before 6
  pub too_large : write 1 9 (5 ∷ 2147352576 ∷ 2147352577 ∷ []) (pos 0 ∷ pos 0 ∷ pos 0 ∷ []) 0 ≡ refused RANGE 1
  -- 6: one byte short, and room for the column
  pub short_room : write 1 9 (0 ∷ 2 ∷ 7 ∷ []) (pos 150 ∷ pos 140 ∷ pos 135 ∷ []) 26 ≡ refused ROOM 27
  pub exact_room : write 1 9 (0 ∷ 2 ∷ 7 ∷ []) (pos 150 ∷ pos 140 ∷ pos 135 ∷ []) 27 ≡ done (three 9)
  pub more_room : write 1 9 (0 ∷ 2 ∷ 7 ∷ []) (pos 150 ∷ pos 140 ∷ pos 135 ∷ []) 28 ≡ done (three 9)
  -- block of 4095 ids: 8194 bytes; 4096 at p 9: 8452, at p 0: 8196; 65536: 4
  pub sparse_block : block_bytes 9 4095 ≡ 8194
  pub dense_block : block_bytes 9 4096 ≡ 8452
  pub dense_without_ranks : block_bytes 0 4096 ≡ 8196
  pub dense_last : block_bytes 9 65535 ≡ 8452
  pub full_block : block_bytes 9 65536 ≡ 4
  -- a missing block has the entry of the next one written; two entries are written as none
  pub missing_blocks : jumps 0 (7 ∷ 196613 ∷ 196614 ∷ []) ≡ (0, 0) ∷ (1, 6) ∷ (1, 6) ∷ (1, 6) ∷ (3, 14) ∷ []
  pub two_entries : jumps 0 (7 ∷ []) ≡ []

pub writer_cases : WriterCases
unfolding computing headed section sections three
writer_cases = search

-- ---- the divisor and the width (document 02, [2])

unfoldable pub lowest : ℤ
lowest = negsuc (2 ^ 63 - 1)

unfoldable pub highest : ℤ
highest = pos (2 ^ 63 - 1)

pub record DivisorCases : Type 0 where
  -- scores 7 and 10 need one bit (g 3)
  pub scores_divisor : divisor (pos 7 ∷ pos 10 ∷ []) ≡ 3
  pub scores : width (pos 7 ∷ pos 10 ∷ []) ≡ 1
  -- smallest and greatest 64-bit value together, in either order: g 2^64 - 1, w 1
  pub widest_divisor : divisor (lowest ∷ highest ∷ []) ≡ 2 ^ 64 - 1
  pub widest : width (lowest ∷ highest ∷ []) ≡ 1
  pub greatest_first : divisor (highest ∷ lowest ∷ []) ≡ 2 ^ 64 - 1
  -- and 0 between them: g 1, w 64
  pub full_divisor : divisor (lowest ∷ pos 0 ∷ highest ∷ []) ≡ 1
  pub full : width (lowest ∷ pos 0 ∷ highest ∷ []) ≡ 64
  -- smallest and 0: g 2^63, w 1
  pub half_divisor : divisor (lowest ∷ pos 0 ∷ []) ≡ 2 ^ 63
  pub half : width (lowest ∷ pos 0 ∷ []) ≡ 1
  -- all equal, or none: g 1, w 0
  pub equal_divisor : divisor (pos 5 ∷ pos 5 ∷ pos 5 ∷ []) ≡ 1
  pub equal : width (pos 5 ∷ pos 5 ∷ pos 5 ∷ []) ≡ 0
  pub none_divisor : divisor [] ≡ 1
  pub none : width [] ≡ 0
  -- values on both sides of 0; and where the first is not the smallest
  pub mixed_divisor : divisor (negsuc 8 ∷ negsuc 1 ∷ pos 5 ∷ []) ≡ 7
  pub mixed : width (negsuc 8 ∷ negsuc 1 ∷ pos 5 ∷ []) ≡ 2
  pub mixed_stored : stored (negsuc 1 ∷ pos 5 ∷ negsuc 8 ∷ []) ≡ 1 ∷ 2 ∷ 0 ∷ []

pub divisor_cases : DivisorCases
unfolding computing lowest highest
divisor_cases = search

-- ---- the header

pub record HeaderCases : Type 0 where
  -- 7: the bytes end before a header number's last byte; with the byte count (document 02, [4]; more in PinsPlaces.antt)
  pub no_bytes : check editions [] ≡ refused SHORT 0
  pub edition_alone : check editions (0x01 ∷ []) ≡ refused SHORT 1
  pub nine_go_on : check editions (replicate 9 0x80) ≡ refused SHORT 9
  -- 8: ten bytes that go on; the tenth byte can only be 1; not minimal; with the place of the byte that decided it ([4])
  pub ten_go_on : check editions (replicate 10 0x80) ≡ refused NUMBER 9
  pub tenth_two : check editions (replicate 9 0xFF ++ (0x02 ∷ [])) ≡ refused NUMBER 9
  pub tenth_zero : check editions (replicate 9 0xFF ++ (0x00 ∷ [])) ≡ refused NUMBER 9
  pub tenth_one : read_number (replicate 9 0xFF ++ (0x01 ∷ [])) ≡ got (2 ^ 64 - 1) 10
  pub tenth_bad : read_number (replicate 9 0xFF ++ (0x02 ∷ [])) ≡ bad 9
  pub ten_bytes : number (2 ^ 63) ≡ replicate 9 0x80 ++ (0x01 ∷ [])
  pub nine_bytes : number (2 ^ 63 - 1) ≡ replicate 8 0xFF ++ (0x7F ∷ [])
  pub zero_alone : read_number (0x00 ∷ []) ≡ got 0 1
  pub ends_in_zero : check editions (0x01 ∷ 0x83 ∷ 0x00 ∷ []) ≡ refused NUMBER 2
  -- 7 and 8 go by the first bad header number
  pub number_then_short : check editions (0x01 ∷ 0x83 ∷ 0x00 ∷ 0x80 ∷ []) ≡ refused NUMBER 2
  -- 9: as soon as the first number is read, before a later 7 or 8
  pub edition_nine : check editions (0x09 ∷ []) ≡ refused EDITION 0
  pub edition_zero : check editions (0x00 ∷ 0x80 ∷ 0x00 ∷ []) ≡ refused EDITION 0
  pub edition_largest : check editions (replicate 9 0xFF ++ (0x01 ∷ [])) ≡ refused EDITION 0
  -- 10: only after all nine numbers; p is 6 here, and the last number is cut, or not minimal
  pub cut_before_rules : check editions (headed (1 ∷ 3 ∷ 6 ∷ 16 ∷ 0 ∷ 2 ∷ 270 ∷ 5 ∷ []) (0x81 ∷ [])) ≡ refused SHORT 10
  pub number_before_rules : check editions (headed (1 ∷ 3 ∷ 6 ∷ 16 ∷ 0 ∷ 2 ∷ 270 ∷ 5 ∷ []) (0x81 ∷ 0x00 ∷ section)) ≡ refused NUMBER 10
  -- each rule broken alone, and its other side: p
  pub power_1 : check editions (three 1) ≡ refused HEADER 0
  pub power_6 : check editions (three 6) ≡ refused HEADER 0
  pub power_16 : check editions (three 16) ≡ refused HEADER 0
  pub power_0 : check editions (three 0) ≡ done 3
  pub power_7 : check editions (three 7) ≡ done 3
  pub power_15 : check editions (three 15) ≡ done 3
  -- n, with w 0: at its limit it breaks no header rule, and these are no column
  pub count_above : check editions (headed (1 ∷ 2147352577 ∷ 9 ∷ 16 ∷ 0 ∷ 0 ∷ 270 ∷ 5 ∷ 0 ∷ []) section) ≡ refused HEADER 0
  pub count_limit : check editions (headed (1 ∷ 2147352576 ∷ 9 ∷ 16 ∷ 0 ∷ 0 ∷ 270 ∷ 5 ∷ 0 ∷ []) section) ≡ refused DAMAGED 0
  -- J, with L large enough: at its limit it breaks no header rule, and the bytes are too few
  pub jumps_above : check editions (headed (1 ∷ 3 ∷ 9 ∷ 262150 ∷ 32768 ∷ 2 ∷ 270 ∷ 5 ∷ 1 ∷ []) sections) ≡ refused HEADER 0
  pub jumps_limit : check editions (headed (1 ∷ 3 ∷ 9 ∷ 262150 ∷ 32767 ∷ 2 ∷ 270 ∷ 5 ∷ 1 ∷ []) sections) ≡ refused LENGTH 0
  -- w, with its V
  pub width_above : check editions (headed (1 ∷ 3 ∷ 9 ∷ 16 ∷ 0 ∷ 65 ∷ 270 ∷ 5 ∷ 25 ∷ []) (section ++ replicate 25 0)) ≡ refused HEADER 0
  pub width_limit : check editions (headed (1 ∷ 3 ∷ 9 ∷ 16 ∷ 0 ∷ 64 ∷ 270 ∷ 5 ∷ 24 ∷ []) (section ++ replicate 24 0)) ≡ refused DAMAGED 0
  -- g
  pub divisor_zero : check editions (headed (1 ∷ 3 ∷ 9 ∷ 16 ∷ 0 ∷ 2 ∷ 270 ∷ 0 ∷ 1 ∷ []) sections) ≡ refused HEADER 0
  pub divisor_one : check editions (headed (1 ∷ 3 ∷ 9 ∷ 16 ∷ 0 ∷ 2 ∷ 270 ∷ 1 ∷ 1 ∷ []) sections) ≡ done 3
  -- L at least 6 + 8J
  pub section_5 : check editions (no_pairs 5 0 5) ≡ refused HEADER 0
  pub section_6 : check editions (no_pairs 6 0 6) ≡ refused DAMAGED 0
  pub section_13 : check editions (no_pairs 13 1 13) ≡ refused HEADER 0
  pub section_14 : check editions (no_pairs 14 1 14) ≡ done 0
  -- V one more and one less
  pub values_more : check editions (headed (1 ∷ 3 ∷ 9 ∷ 16 ∷ 0 ∷ 2 ∷ 270 ∷ 5 ∷ 2 ∷ []) (sections ++ (0 ∷ []))) ≡ refused HEADER 0
  pub values_less : check editions (headed (1 ∷ 3 ∷ 9 ∷ 16 ∷ 0 ∷ 2 ∷ 270 ∷ 5 ∷ 0 ∷ []) section) ≡ refused HEADER 0
  -- 11: one byte more and one less; after 10, and before 13
  pub one_more : check editions (three 9 ++ (0 ∷ [])) ≡ refused LENGTH 0
  pub one_less : check editions (headed (1 ∷ 3 ∷ 9 ∷ 16 ∷ 0 ∷ 2 ∷ 270 ∷ 5 ∷ 1 ∷ []) section) ≡ refused LENGTH 0
  pub header_alone : check editions (headed (1 ∷ 3 ∷ 9 ∷ 16 ∷ 0 ∷ 2 ∷ 270 ∷ 5 ∷ 1 ∷ []) []) ≡ refused LENGTH 0
  -- 12: with n; before 13 and after 11
  pub ids_room : reading editions (three 9) 2 3 ≡ refused BUFFER 3
  pub values_room : reading editions (three 9) 3 2 ≡ refused BUFFER 3
  pub rooms : reading editions (three 9) 3 3 ≡ done (record { ids = 0 ∷ 2 ∷ 7 ∷ []; values = pos 150 ∷ pos 140 ∷ pos 135 ∷ [] })
  pub room_before_damage : reading editions spare_set 3 2 ≡ refused BUFFER 3
  pub damage_with_rooms : reading editions spare_set 3 3 ≡ refused DAMAGED 0
  pub length_before_room : reading editions (three 9 ++ (0 ∷ [])) 0 0 ≡ refused LENGTH 0

pub header_cases : HeaderCases
unfolding computing headed section sections three spare_set no_pairs
header_cases = search
