-- Refusals 13 to 15 on both sides of their lines, as computed tables: bytes that are no column, each step of the look-up failing alone,
-- and the walk. Assumes nothing.
use Rattle.format.specs.Kit.{◌≡◌, List, [], ◌∷◌, ◌++◌, some, ℕ, ◌+◌, ◌*◌, ◌^◌, ◌-◌, length, replicate, ℤ, pos, negsuc}
use Rattle.format.specs.Refusals.{Outcome, done, refused, and_then, SHORT, HEADER, LENGTH, DAMAGED, ID, BROKEN}
use Rattle.format.specs.Bytes.{bytes_of, low, high}
use Rattle.format.specs.HeaderNumbers.{number, zigzag}
use Rattle.format.specs.Ids.{Entry, end_block, entry_bytes, blocks}
use Rattle.format.specs.Editions.{editions}
use Rattle.format.specs.Column.{Head}
use Rattle.format.specs.Opening.{open_column}
use Rattle.format.specs.Check.{check}
use Rattle.format.specs.LookUp.{Look, found, absent, look_up, look_up_in}
use Rattle.format.specs.Walk.{Seen, seen, unseen, walk}
use Rattle.format.proofs.Computing.{computing}

-- ---- bytes

-- a block's head, for c ids, and a sparse block with these places, whatever their order
unfoldable pub block_head : ℕ → ℕ → List ℕ
block_head k c = low 2 k ++ low 2 (c - 1)

unfoldable pub sparse_block_lem : ℕ → List ℕ → List ℕ
sparse_block_lem k rs = block_head k (length rs) ++ bytes_of (low 2) rs

-- bytes with rank power p, n pairs, blocks and end block as given, these jump entries, width w, smallest value v, divisor g and
-- value section; L, J and V are what they have to be
unfoldable pub made : ℕ → ℕ → List ℕ → List Entry → ℕ → ℤ → ℕ → List ℕ → List ℕ
made p n blocks es w v g xs =
    bytes_of number (1 ∷ n ∷ p ∷ (length blocks + 8 * length es) ∷ length es ∷ w ∷ zigzag v ∷ g ∷ length xs ∷ [])
    ++ (blocks ++ (bytes_of entry_bytes es ++ xs))

-- the same with no value section: each value is 5
unfoldable pub fives : ℕ → ℕ → List ℕ → List Entry → List ℕ
fives p n blocks es = made p n blocks es 0 (pos 5) 1 []

-- ---- 13

-- block 0 with these three places, and values 150, 140, 135 by a width, a smallest value, a divisor and a value section
unfoldable pub three_by : List ℕ → ℕ → ℤ → ℕ → List ℕ → List ℕ
three_by rs w v g xs = made 9 3 (sparse_block_lem 0 rs ++ end_block) [] w v g xs

-- block 0 with places 0 and 2, and their values likewise
unfoldable pub two_by : ℕ → ℤ → ℕ → List ℕ → List ℕ
two_by w v g xs = made 9 2 (sparse_block_lem 0 (0 ∷ 2 ∷ []) ++ end_block) [] w v g xs

-- block 1 with place 0, for id 65536, and block 0 missing
unfoldable pub second_by : List Entry → List ℕ
second_by es = fives 0 1 (sparse_block_lem 1 (0 ∷ []) ++ end_block) es

pub record DamageCases : Type 0 where
  pub a_column : check editions (three_by (0 ∷ 2 ∷ 7 ∷ []) 2 (pos 135) 5 (0xD0 ∷ [])) ≡ done 3
  pub places_fall : check editions (three_by (0 ∷ 7 ∷ 2 ∷ []) 2 (pos 135) 5 (0xD0 ∷ [])) ≡ refused DAMAGED 0
  pub place_twice : check editions (three_by (0 ∷ 2 ∷ 2 ∷ []) 2 (pos 135) 5 (0xD0 ∷ [])) ≡ refused DAMAGED 0
  pub spare_bit : check editions (three_by (0 ∷ 2 ∷ 7 ∷ []) 2 (pos 135) 5 (0xD1 ∷ [])) ≡ refused DAMAGED 0
  -- the values are still 150, 140, 135: stored numbers 3, 1, 0 in three bits; 15, 5, 0 with divisor 1; 4, 2, 1 above 130
  pub wider : check editions (three_by (0 ∷ 2 ∷ 7 ∷ []) 3 (pos 135) 5 (0x64 ∷ 0x00 ∷ [])) ≡ refused DAMAGED 0
  pub divisor_small : check editions (three_by (0 ∷ 2 ∷ 7 ∷ []) 4 (pos 135) 1 (0xF5 ∷ 0x00 ∷ [])) ≡ refused DAMAGED 0
  pub smallest_not_there : check editions (three_by (0 ∷ 2 ∷ 7 ∷ []) 3 (pos 130) 5 (0x88 ∷ 0x80 ∷ [])) ≡ refused DAMAGED 0
  -- the values are 7 and 10: stored 0 and 1 with divisor 3, or 0 and 3 with divisor 1; 7 and 11: 0 and 2 have the common divisor 2
  pub divisor_exact : check editions (two_by 1 (pos 7) 3 (0x40 ∷ [])) ≡ done 2
  pub divisor_of_values : check editions (two_by 2 (pos 7) 1 (0x30 ∷ [])) ≡ refused DAMAGED 0
  pub common_divisor : check editions (two_by 2 (pos 7) 2 (0x20 ∷ [])) ≡ refused DAMAGED 0
  -- a count that is not n
  pub count_short : check editions (made 9 2 (sparse_block_lem 0 (0 ∷ 2 ∷ 7 ∷ []) ++ end_block) [] 2 (pos 135) 5 (0xD0 ∷ [])) ≡ refused DAMAGED 0
  -- bytes between the end block and the entries
  pub loose_bytes : check editions (made 9 3 (sparse_block_lem 0 (0 ∷ 2 ∷ 7 ∷ []) ++ (end_block ++ (0 ∷ []))) [] 2 (pos 135) 5 (0xD0 ∷ [])) ≡ refused DAMAGED 0
  -- a value above 64 bits: the greatest value, and one more stored above it
  pub value_large : check editions (two_by 1 (pos (2 ^ 63 - 1)) 1 (0x40 ∷ [])) ≡ refused DAMAGED 0
  -- jump entries
  pub entries_right : check editions (second_by ((0, 0) ∷ (0, 0) ∷ (1, 6) ∷ [])) ≡ done 1
  pub ordinal_wrong : check editions (second_by ((0, 0) ∷ (0, 0) ∷ (0, 6) ∷ [])) ≡ refused DAMAGED 0
  pub start_wrong : check editions (second_by ((0, 0) ∷ (0, 6) ∷ (1, 6) ∷ [])) ≡ refused DAMAGED 0
  pub entry_missing : check editions (second_by ((0, 0) ∷ (0, 0) ∷ [])) ≡ refused DAMAGED 0
  pub two_kept : check editions (fives 0 1 (sparse_block_lem 0 (7 ∷ []) ++ end_block) ((0, 0) ∷ (1, 6) ∷ [])) ≡ refused DAMAGED 0
  pub two_dropped : check editions (fives 0 1 (sparse_block_lem 0 (7 ∷ []) ++ end_block) []) ≡ done 1
  -- block numbers that fall
  pub blocks_fall : check editions (fives 0 2 (sparse_block_lem 1 (0 ∷ []) ++ (sparse_block_lem 0 (0 ∷ []) ++ end_block)) ((0, 0) ∷ (0, 0) ∷ (2, 12) ∷ []))
      ≡ refused DAMAGED 0

pub damage_cases : DamageCases
unfolding computing block_head sparse_block_lem made fives three_by two_by second_by
damage_cases = search

-- ---- 14 and 15

-- block 0 with 4096 ids at p 15: a rank table of two entries, of which the first is given, and a bitmap with places 0 to 4095
unfoldable pub dense_by : ℕ → List ℕ
dense_by rank =
    fives 15 4096 (block_head 0 4096 ++ (high 2 rank ++ (0x10 ∷ 0x00 ∷ []) ++ (replicate 512 0xFF ++ replicate 7680 0) ++ end_block)) []

-- the same without ranks
unfoldable pub dense_bare : List ℕ
dense_bare = fives 0 4096 (block_head 0 4096 ++ ((replicate 512 0xFF ++ replicate 7680 0) ++ end_block)) []

pub record StepCases : Type 0 where
  -- 14, before a byte is read
  pub id_above : look_up editions [] 2147352576 ≡ refused ID 0
  pub id_limit : look_up editions [] 2147352575 ≡ refused SHORT 0
  -- step 1: no entries; the entry of the id's block; the last one for a block beyond
  pub no_entries : look_up editions (three_by (0 ∷ 2 ∷ 7 ∷ []) 2 (pos 135) 5 (0xD0 ∷ [])) 2 ≡ done (found 1 (pos 140) 0)
  pub its_entry : look_up editions (second_by ((9, 9) ∷ (0, 0) ∷ (9, 9) ∷ [])) 65536 ≡ done (found 0 (pos 5) 0)
  pub last_entry : look_up editions (second_by ((9, 9) ∷ (9, 9) ∷ (1, 6) ∷ [])) 2147352575 ≡ done (absent 0)
  -- step 2: A is 12, and the block's head ends at 12, or at 13; at 8 stands what reads as a full block 0
  pub head_by_end : look_up editions (fives 0 65536 (sparse_block_lem 0 (7 ∷ []) ++ end_block) ((0, 8) ∷ [])) 7 ≡ done (found 7 (pos 5) 0)
  pub head_past_end : look_up editions (fives 0 65536 (sparse_block_lem 0 (7 ∷ []) ++ end_block) ((0, 9) ∷ [])) 7 ≡ refused BROKEN 0
  -- step 3: with entries, a block number below the id's is BROKEN, and one above it is absent; without, both are absent
  pub below_with_entries : look_up editions (fives 0 1 (sparse_block_lem 0 (7 ∷ []) ++ end_block) ((0, 0) ∷ [])) 65543 ≡ refused BROKEN 0
  pub above_with_entries : look_up editions (fives 0 1 (sparse_block_lem 5 (7 ∷ []) ++ end_block) ((0, 0) ∷ [])) 7 ≡ done (absent 0)
  pub below_without : look_up editions (fives 0 1 (sparse_block_lem 0 (7 ∷ []) ++ end_block) []) 65543 ≡ done (absent 0)
  pub above_without : look_up editions (fives 0 1 (sparse_block_lem 5 (7 ∷ []) ++ end_block) []) 7 ≡ done (absent 0)
  pub first_block_5 : look_up editions (fives 0 1 (sparse_block_lem 5 (7 ∷ []) ++ end_block) []) 327687 ≡ done (found 0 (pos 5) 0)
  -- step 3 decides before step 4: the block's data would end past A
  pub absent_first : look_up editions (fives 0 1 (block_head 5 4000 ++ end_block) []) 7 ≡ done (absent 0)
  -- step 4: the data end at A, or past it; the ordinals stay within n, or not
  pub data_by_end : look_up editions (fives 0 2 (block_head 0 1 ++ (7 ∷ 0 ∷ [])) []) 7 ≡ done (found 0 (pos 5) 0)
  pub data_past_end : look_up editions (fives 0 2 (block_head 0 2 ++ (7 ∷ 0 ∷ [])) []) 7 ≡ refused BROKEN 0
  pub ordinals_within : look_up editions (fives 0 2 (sparse_block_lem 0 (7 ∷ []) ++ end_block) ((1, 0) ∷ [])) 7 ≡ done (found 1 (pos 5) 0)
  pub ordinals_past : look_up editions (fives 0 1 (sparse_block_lem 0 (7 ∷ []) ++ end_block) ((1, 0) ∷ [])) 7 ≡ refused BROKEN 0
  -- step 4 decides before step 5: an id that is not there
  pub broken_first : look_up editions (fives 0 1 (sparse_block_lem 0 (7 ∷ []) ++ end_block) ((1, 0) ∷ [])) 8 ≡ refused BROKEN 0
  -- step 5: an entry above r that is probed hides those after it (PinsProbes has more)
  pub above_stops : look_up editions (fives 0 3 (sparse_block_lem 0 (0 ∷ 7 ∷ 2 ∷ []) ++ end_block) []) 2 ≡ done (absent 0)
  pub above_found : look_up editions (fives 0 3 (sparse_block_lem 0 (0 ∷ 7 ∷ 2 ∷ []) ++ end_block) []) 7 ≡ done (found 1 (pos 5) 0)
  pub full_block : look_up editions (fives 0 65536 (block_head 0 65536 ++ end_block) []) 65535 ≡ done (found 65535 (pos 5) 0)
  -- step 6: a clear bit is absent with 1 word, whatever the ranks; a set bit's inner place must be below c; words of the stride
  pub bit_clear : look_up editions (dense_by 0) 4096 ≡ done (absent 1)
  pub bit_clear_ranks_wrong : look_up editions (dense_by 65535) 4096 ≡ done (absent 1)
  pub bit_set : look_up editions (dense_by 0) 4095 ≡ done (found 4095 (pos 5) 64)
  pub first_bit : look_up editions (dense_by 0) 0 ≡ done (found 0 (pos 5) 1)
  pub place_past_count : look_up editions (dense_by 1) 4095 ≡ refused BROKEN 0
  pub place_below_count : look_up editions (dense_by 1) 4094 ≡ done (found 4095 (pos 5) 64)
  pub rank_high_first : look_up editions (dense_by 256) 0 ≡ done (found 256 (pos 5) 1)
  pub bare_bit_set : look_up editions dense_bare 4095 ≡ done (found 4095 (pos 5) 64)
  pub bare_bit_clear : look_up editions dense_bare 65535 ≡ done (absent 1)
  -- step 7: the greatest value, and one more
  pub value_fits : look_up editions (made 0 1 (sparse_block_lem 0 (7 ∷ []) ++ end_block) [] 1 (pos (2 ^ 63 - 1)) 1 (0x00 ∷ [])) 7
      ≡ done (found 0 (pos (2 ^ 63 - 1)) 0)
  pub value_too_large : look_up editions (made 0 1 (sparse_block_lem 0 (7 ∷ []) ++ end_block) [] 1 (pos (2 ^ 63 - 1)) 1 (0x80 ∷ [])) 7 ≡ refused BROKEN 0
  pub value_below_zero : look_up editions (made 0 1 (sparse_block_lem 0 (7 ∷ []) ++ end_block) [] 1 (negsuc (2 ^ 63 - 1)) (2 ^ 63) (0x80 ∷ [])) 7
      ≡ done (found 0 (pos 0) 0)

pub step_cases : StepCases
unfolding computing block_head sparse_block_lem made fives three_by second_by dense_by dense_bare
step_cases = search

-- ---- the walk, and the look-up in an opened column

-- block 0 with place 7, block 3 with places 5 and 6
unfoldable pub two_blocks_lem : List ℕ
two_blocks_lem = sparse_block_lem 0 (7 ∷ []) ++ (sparse_block_lem 3 (5 ∷ 6 ∷ []) ++ end_block)

-- the walk over bytes that are opened
unfoldable pub walked : List ℕ → ℕ → Outcome Seen
walked bytes id = and_then (open_column editions bytes) (λ c. done (walk bytes c id))

-- a header with another rank power
unfoldable pub with_power : ℕ → Head → Head
with_power p h =
    record {
      edition = h.edition;
      count = h.count;
      power = p;
      id_bytes = h.id_bytes;
      jump_count = h.jump_count;
      fields = h.fields;
      value_bytes = h.value_bytes;
    }

-- the look-up with an opened column that has this rank power, and starts so many bytes later
unfoldable pub looked_in : List ℕ → ℕ → ℕ → ℕ → Outcome Look
looked_in bytes p later id =
    and_then (open_column editions bytes) (λ c.
    look_up_in bytes (record { head = with_power p c.head; start = c.start + later }) id)

pub record WalkCases : Type 0 where
  -- blocks 0 and 3, found in the second, with its ordinal; a place that is not there; the end block
  pub second_block : walked (fives 0 3 two_blocks_lem ((0, 0) ∷ (1, 6) ∷ (1, 6) ∷ (1, 6) ∷ (3, 14) ∷ [])) 196614 ≡ done (seen 2 (some (pos 5)))
  pub not_there : walked (fives 0 3 two_blocks_lem ((0, 0) ∷ (1, 6) ∷ (1, 6) ∷ (1, 6) ∷ (3, 14) ∷ [])) 196615 ≡ done unseen
  pub past_end : walked (fives 0 3 two_blocks_lem ((0, 0) ∷ (1, 6) ∷ (1, 6) ∷ (1, 6) ∷ (3, 14) ∷ [])) 2147352575 ≡ done unseen
  -- it uses no jump entry
  pub entries_unused : walked (fives 0 3 two_blocks_lem ((9, 9) ∷ (9, 9) ∷ [])) 196614 ≡ done (seen 2 (some (pos 5)))
  -- 14, then 10, then 11, then the steps
  pub id_first : looked_in (fives 0 3 two_blocks_lem []) 6 1 2147352576 ≡ refused ID 0
  pub header_next : looked_in (fives 0 3 two_blocks_lem []) 6 1 7 ≡ refused HEADER 0
  pub length_next : looked_in (fives 0 3 two_blocks_lem []) 7 1 7 ≡ refused LENGTH 0
  pub steps_last : looked_in (fives 0 3 two_blocks_lem []) 7 0 7 ≡ done (found 0 (pos 5) 0)

pub walk_cases : WalkCases
unfolding computing block_head sparse_block_lem made fives two_blocks_lem walked with_power looked_in
walk_cases = search
