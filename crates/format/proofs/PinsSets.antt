-- Both sides of each line of document 02, [14], that computes at once; set_format/proofs/Lines.antt has the lines on blocks of thousands
-- of ids, by laws. Assumes nothing.
use Rattle.format.specs.Kit.{◌≡◌, true, false, List, [], ◌∷◌, ◌++◌, ℕ, take, replicate}
use Rattle.format.specs.Refusals.{done, refused, ORDER, RANGE, ROOM, SHORT, NUMBER, DAMAGED, ID}
use Rattle.format.specs.SetBytes.{set_kind, missing, set_bytes, set_write}
use Rattle.format.specs.SetCalls.{list_length_ok, set_check, member_at, no_member, set_find}
use Rattle.format.proofs.Computing.{computing}

-- ids 0, 2, 7 and 65536: two listed blocks
unfoldable pub four : List ℕ
four = 0x02 ∷ 0x00 ∷ 0x00 ∷ 0x03 ∷ 0x00 ∷ 0x00 ∷ 0x02 ∷ 0x00 ∷ 0x07 ∷ 0x00 ∷ 0x01 ∷ 0x00 ∷ 0x01 ∷ 0x00 ∷ 0x00 ∷ []

-- ---- the writer

pub record SetCases : Type 0 where
  -- no ids: no blocks
  pub no_ids : set_bytes [] ≡ 0x00 ∷ []
  pub two_blocks : set_bytes (0 ∷ 2 ∷ 7 ∷ 65536 ∷ []) ≡ four
  pub last_id : set_bytes (2147352575 ∷ []) ≡ 0x01 ∷ 0xFD ∷ 0xFF ∷ 0x01 ∷ 0x00 ∷ 0x01 ∷ 0xFF ∷ 0xFF ∷ []
  -- up to 4096 ids listed; otherwise fewer than 4096 missing, so from 61441 ids on, the missing ones listed; else a bitmap
  pub one_id : set_kind 1 ≡ 0
  pub most_listed : set_kind 4096 ≡ 0
  pub least_bitmap : set_kind 4097 ≡ 2
  pub most_bitmap : set_kind 61440 ≡ 2
  pub most_missing : set_kind 61441 ≡ 1
  pub one_missing : set_kind 65535 ≡ 1
  pub none_missing : set_kind 65536 ≡ 1
  -- of the eight places from 3 on
  pub some_missing : missing 8 3 (3 ∷ 5 ∷ 6 ∷ 10 ∷ []) ≡ 4 ∷ 7 ∷ 8 ∷ 9 ∷ []
  -- refusals 3, 4, 6
  pub order : set_write (4 ∷ 4 ∷ []) 0 ≡ refused ORDER 1
  pub order_before_range : set_write (2147352576 ∷ 5 ∷ []) 0 ≡ refused ORDER 1
  pub range : set_write (5 ∷ 2147352576 ∷ 2147352577 ∷ []) 0 ≡ refused RANGE 1
  pub short_room : set_write (0 ∷ 2 ∷ 7 ∷ 65536 ∷ []) 14 ≡ refused ROOM 15
  pub exact_room : set_write (0 ∷ 2 ∷ 7 ∷ 65536 ∷ []) 15 ≡ done four

pub set_cases : SetCases
unfolding computing four
set_cases = search

-- ---- the check

pub record SetCheckCases : Type 0 where
  pub taken : set_check four ≡ done 4
  pub nothing_there : set_check (0x00 ∷ []) ≡ done 0
  -- every cut of `four`: 7 with the byte count within a number, 13 within a list
  pub cut_0 : set_check [] ≡ refused SHORT 0
  pub cut_1 : set_check (take 1 four) ≡ refused SHORT 1
  pub cut_2 : set_check (take 2 four) ≡ refused SHORT 2
  pub cut_3 : set_check (take 3 four) ≡ refused SHORT 3
  pub cut_4 : set_check (take 4 four) ≡ refused DAMAGED 0
  pub cut_5 : set_check (take 5 four) ≡ refused DAMAGED 0
  pub cut_6 : set_check (take 6 four) ≡ refused DAMAGED 0
  pub cut_7 : set_check (take 7 four) ≡ refused DAMAGED 0
  pub cut_8 : set_check (take 8 four) ≡ refused DAMAGED 0
  pub cut_9 : set_check (take 9 four) ≡ refused DAMAGED 0
  pub cut_10 : set_check (take 10 four) ≡ refused SHORT 10
  pub cut_11 : set_check (take 11 four) ≡ refused SHORT 11
  pub cut_12 : set_check (take 12 four) ≡ refused SHORT 12
  pub cut_13 : set_check (take 13 four) ≡ refused DAMAGED 0
  pub cut_14 : set_check (take 14 four) ≡ refused DAMAGED 0
  pub one_more : set_check (four ++ (0x00 ∷ [])) ≡ refused DAMAGED 0
  -- 7 and 8 with [4]'s numbers, in each of a block's numbers
  pub cut_count : set_check (0x80 ∷ []) ≡ refused SHORT 1
  pub padded_count : set_check (0x80 ∷ 0x00 ∷ []) ≡ refused NUMBER 1
  pub large_count : set_check (replicate 9 0xFF ++ (0x02 ∷ [])) ≡ refused NUMBER 9
  pub padded_number : set_check (0x01 ∷ 0x80 ∷ 0x00 ∷ []) ≡ refused NUMBER 2
  pub padded_kind : set_check (0x01 ∷ 0x00 ∷ 0x80 ∷ 0x00 ∷ []) ≡ refused NUMBER 3
  pub padded_length : set_check (0x01 ∷ 0x00 ∷ 0x00 ∷ 0x81 ∷ 0x00 ∷ []) ≡ refused NUMBER 4
  pub cut_length : set_check (0x01 ∷ 0x00 ∷ 0x00 ∷ 0x81 ∷ []) ≡ refused SHORT 4
  -- each number is held to its limits at once, before the next is read: 32766 blocks,
  pub most_blocks : set_check (0xFE ∷ 0xFF ∷ 0x01 ∷ []) ≡ refused SHORT 3
  pub more_blocks : set_check (0xFF ∷ 0xFF ∷ 0x01 ∷ []) ≡ refused DAMAGED 0
  -- block numbers to 32765,
  pub last_block : set_check (0x01 ∷ 0xFD ∷ 0xFF ∷ 0x01 ∷ []) ≡ refused SHORT 4
  pub late_block : set_check (0x01 ∷ 0xFE ∷ 0xFF ∷ 0x01 ∷ []) ≡ refused DAMAGED 0
  -- rising: 1 after 0 (`cut-11`), and not 0 again,
  pub not_rising : set_check (take 10 four ++ (0x00 ∷ [])) ≡ refused DAMAGED 0
  -- kinds to 2,
  pub last_kind : set_check (0x01 ∷ 0x00 ∷ 0x02 ∷ []) ≡ refused SHORT 3
  pub no_kind : set_check (0x01 ∷ 0x00 ∷ 0x03 ∷ []) ≡ refused DAMAGED 0
  -- and the kind's lengths: listed 1 to 4096, missing 0 to 4095, a bitmap 0
  pub none_listed : set_check (0x01 ∷ 0x00 ∷ 0x00 ∷ 0x00 ∷ 0x80 ∷ []) ≡ refused DAMAGED 0
  pub one_listed : set_check (0x01 ∷ 0x00 ∷ 0x00 ∷ 0x01 ∷ 0x05 ∷ 0x00 ∷ []) ≡ done 1
  pub listed_lengths : (list_length_ok 0 0 ≡ false) × (list_length_ok 0 1 ≡ true) × (list_length_ok 0 4096 ≡ true) × (list_length_ok 0 4097 ≡ false)
  pub missing_lengths : (list_length_ok 1 0 ≡ true) × (list_length_ok 1 4095 ≡ true) × (list_length_ok 1 4096 ≡ false)
  pub bitmap_lengths : (list_length_ok 2 0 ≡ true) × (list_length_ok 2 1 ≡ false)
  -- a list ascends, of ids or of missing ones
  pub ascending : set_check (0x01 ∷ 0x00 ∷ 0x00 ∷ 0x02 ∷ 0x05 ∷ 0x00 ∷ 0x06 ∷ 0x00 ∷ []) ≡ done 2
  pub twice : set_check (0x01 ∷ 0x00 ∷ 0x00 ∷ 0x02 ∷ 0x05 ∷ 0x00 ∷ 0x05 ∷ 0x00 ∷ []) ≡ refused DAMAGED 0
  pub missing_twice : set_check (0x01 ∷ 0x00 ∷ 0x01 ∷ 0x02 ∷ 0x05 ∷ 0x00 ∷ 0x05 ∷ 0x00 ∷ []) ≡ refused DAMAGED 0
  pub bitmap_cut : set_check (0x01 ∷ 0x00 ∷ 0x02 ∷ 0x00 ∷ 0xFF ∷ []) ≡ refused DAMAGED 0
  -- the first fault in byte order: a list's before the next block's number, and a number's before what follows it
  pub list_data : set_check (0x01 ∷ 0x00 ∷ 0x00 ∷ 0x02 ∷ 0x80 ∷ 0x00 ∷ 0x80 ∷ 0x00 ∷ []) ≡ refused DAMAGED 0
  pub list_first : set_check (0x02 ∷ 0x00 ∷ 0x00 ∷ 0x02 ∷ 0x05 ∷ 0x00 ∷ 0x05 ∷ 0x00 ∷ 0x80 ∷ 0x00 ∷ []) ≡ refused DAMAGED 0
  pub number_first : set_check (0x02 ∷ 0x00 ∷ 0x00 ∷ 0x02 ∷ 0x05 ∷ 0x00 ∷ 0x06 ∷ 0x00 ∷ 0x80 ∷ 0x00 ∷ []) ≡ refused NUMBER 9
  pub limit_first : set_check (0x01 ∷ 0xFE ∷ 0xFF ∷ 0x01 ∷ 0x80 ∷ 0x00 ∷ []) ≡ refused DAMAGED 0

pub set_check_cases : SetCheckCases
unfolding computing four
set_check_cases = search

-- ---- membership

pub record SetFindCases : Type 0 where
  -- 14, before a byte is read
  pub too_high : set_find [] 2147352576 ≡ refused ID 0
  pub highest : set_find (0x01 ∷ 0xFD ∷ 0xFF ∷ 0x01 ∷ 0x00 ∷ 0x01 ∷ 0xFF ∷ 0xFF ∷ []) 2147352575 ≡ done (member_at 0)
  -- then as the check, wherever the fault is
  pub broken : set_find (0x80 ∷ 0x00 ∷ []) 5 ≡ refused NUMBER 1
  pub left_over : set_find (four ++ (0x00 ∷ [])) 0 ≡ refused DAMAGED 0
  -- found with the ordinal, or not there
  pub first : set_find four 0 ≡ done (member_at 0)
  pub third : set_find four 7 ≡ done (member_at 2)
  pub last : set_find four 65536 ≡ done (member_at 3)
  pub between : set_find four 6 ≡ done no_member
  pub other_block : set_find four 131072 ≡ done no_member

pub set_find_cases : SetFindCases
unfolding computing four
set_find_cases = search
