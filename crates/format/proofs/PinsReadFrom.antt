-- Pairs from an id on, the pair with an ordinal, and the question from an ordinal on, as computed tables, each line worked out by hand: on
-- columns, and on bytes that are none. (That no listed id is left is computed near the greatest id alone: `next` takes each id in turn.)
-- Assumes nothing.
use Rattle.format.specs.Kit.{◌≡◌, List, [], ◌∷◌, ◌++◌, Option, none, some, ℕ, ◌+◌, ◌*◌, ◌^◌, ◌-◌, true, false, Bool, replicate, ℤ, pos}
use Rattle.format.specs.Refusals.{Outcome, done, refused, and_then, SHORT, EDITION, HEADER, LENGTH, ID, BROKEN}
use Rattle.format.specs.Bytes.{bytes_of, high, count_from}
use Rattle.format.specs.Ids.{end_block}
use Rattle.format.specs.Editions.{editions}
use Rattle.format.specs.Opening.{open_column}
use Rattle.format.specs.Next.{Candidate, candidate_at, no_candidate}
use Rattle.format.specs.ReadFrom.{Readout, read_from, read_from_in, readout_reply, readout_after, list_read_from}
use Rattle.format.specs.PairAt.{pair_at, pair_at_in, list_pair}
use Rattle.format.specs.BetweenFrom.{from_value, first_between_from}
use Rattle.format.proofs.Computing.{computing}
use Rattle.format.proofs.PinsSteps.{block_head, sparse_block_lem, made, fives, three_by, dense_by, two_blocks_lem, with_power}
use Rattle.format.proofs.PinsNext.{three, three_pairs, sparse_only, gap}
use Rattle.format.proofs.PinsRuns as Runs
use Rattle.format.proofs.Pins.{headed, section, sections}

-- so many fives
unfoldable pub read_as : List ℕ → List ℤ → Bool → Outcome Readout
read_as ids vs e = done (record { ids = ids; values = vs; ended = e })

-- the last block, with these places
unfoldable pub last_block_lem : ℕ → List ℕ → List ℕ
last_block_lem n rs = fives 0 n (sparse_block_lem 32765 rs ++ end_block) []

-- ids 2147352570, 2147352573 and 2147352575
unfoldable pub last_three : List ℕ
last_three = last_block_lem 3 (65530 ∷ 65533 ∷ 65535 ∷ [])

-- from an opened column that has this rank power, and starts so many bytes later
unfoldable pub read_in : List ℕ → ℕ → ℕ → ℕ → ℕ → Outcome Readout
read_in bytes p later t room =
    and_then (open_column editions bytes) (λ c.
    read_from_in bytes (record { head = with_power p c.head; start = c.start + later }) t room)

unfoldable pub pair_in : List ℕ → ℕ → ℕ → ℕ → Outcome Candidate
pair_in bytes p later o =
    and_then (open_column editions bytes) (λ c.
    pair_at_in bytes (record { head = with_power p c.head; start = c.start + later }) o)

pub record ReadFromCases : Type 0 where
  -- all of them, with room to spare and without, and fewer
  pub spare : read_from editions last_three 2147352570 4
      ≡ read_as (2147352570 ∷ 2147352573 ∷ 2147352575 ∷ []) (pos 5 ∷ pos 5 ∷ pos 5 ∷ []) true
  pub just_full : read_from editions last_three 2147352570 3
      ≡ read_as (2147352570 ∷ 2147352573 ∷ 2147352575 ∷ []) (pos 5 ∷ pos 5 ∷ pos 5 ∷ []) true
  pub fewer : read_from editions last_three 2147352570 2 ≡ read_as (2147352570 ∷ 2147352573 ∷ []) (pos 5 ∷ pos 5 ∷ []) false
  pub from_between : read_from editions last_three 2147352571 4 ≡ read_as (2147352573 ∷ 2147352575 ∷ []) (pos 5 ∷ pos 5 ∷ []) true
  pub from_last : read_from editions last_three 2147352575 1 ≡ read_as (2147352575 ∷ []) (pos 5 ∷ []) true
  pub none_left : read_from editions (last_block_lem 1 (65530 ∷ [])) 2147352571 4 ≡ read_as [] [] true
  -- over a block's border, and over a missing block
  pub next_block : read_from editions gap 196600 1 ≡ read_as (196613 ∷ []) (pos 5 ∷ []) false
  -- no room: whether a listed id is left, or the refusal
  pub no_room : read_from editions last_three 2147352570 0 ≡ read_as [] [] false
  pub no_room_ended : read_from editions (last_block_lem 1 (65530 ∷ [])) 2147352571 0 ≡ read_as [] [] true
  pub no_room_refused : read_from editions (dense_by 1) 4095 0 ≡ refused BROKEN 0
  -- 14, then the header
  pub id_first : read_from editions [] 2147352576 4 ≡ refused ID 0
  pub header_next : read_from editions [] 0 4 ≡ refused SHORT 0
  -- an entry below the one before is not taken
  pub dip : read_from editions (last_block_lem 3 (65530 ∷ 65535 ∷ 65533 ∷ [])) 2147352570 4 ≡ read_as (2147352570 ∷ 2147352575 ∷ []) (pos 5 ∷ pos 5 ∷ []) true
  -- a failed step after a pair ends the pairs, and before one refuses
  pub failed_later : read_from editions (dense_by 1) 4094 4 ≡ read_as (4094 ∷ []) (pos 5 ∷ []) false
  pub failed_first : read_from editions (dense_by 1) 4095 4 ≡ refused BROKEN 0
  -- the reply and the lists
  pub reply : readout_reply (read_from editions last_three 2147352571 4) ≡ done (2, true)
  pub ids_after_is : readout_after (λ w. w.ids) (read_from editions last_three 2147352571 4) (1 ∷ 2 ∷ 3 ∷ 4 ∷ []) ≡ 2147352573 ∷ 2147352575 ∷ 3 ∷ 4 ∷ []
  pub values_after_is : readout_after (λ w. w.values) (read_from editions last_three 2147352571 4) (pos 1 ∷ pos 2 ∷ pos 3 ∷ []) ≡ pos 5 ∷ pos 5 ∷ pos 3 ∷ []
  pub refused_keeps : readout_after (λ w. w.ids) (read_from editions [] 0 4) (1 ∷ 2 ∷ []) ≡ 1 ∷ 2 ∷ []
  -- from an opened column: 14, 10, 11, then the steps
  pub in_id_first : read_in last_three 6 1 2147352576 4 ≡ refused ID 0
  pub in_header_next : read_in last_three 6 1 2147352570 4 ≡ refused HEADER 0
  pub in_length_next : read_in last_three 0 1 2147352570 4 ≡ refused LENGTH 0
  pub in_steps_last : read_in last_three 0 0 2147352574 4 ≡ read_as (2147352575 ∷ []) (pos 5 ∷ []) true
  -- the list's own
  pub list_some : list_read_from three_pairs 1 1 ≡ read_as (2 ∷ []) (pos 140 ∷ []) false
  pub list_rest : list_read_from three_pairs 1 2 ≡ read_as (2 ∷ 7 ∷ []) (pos 140 ∷ pos 135 ∷ []) true
  pub list_above : list_read_from three_pairs 8 4 ≡ read_as [] [] true

pub read_from_cases : ReadFromCases
unfolding computing block_head sparse_block_lem made fives three_by dense_by two_blocks_lem with_power three_pairs gap read_as last_block_lem last_three read_in
read_from_cases = search

pub record PairAtCases : Type 0 where
  -- at both ends, and no pair at n
  pub first : pair_at editions three 0 ≡ done (candidate_at 0 0 (pos 150))
  pub last : pair_at editions three 2 ≡ done (candidate_at 7 2 (pos 135))
  pub at_n : pair_at editions three 3 ≡ done no_candidate
  pub empty_column : pair_at editions (fives 0 0 end_block []) 0 ≡ done no_candidate
  -- by the last jump entry at or below the ordinal, over a missing block
  pub block_0 : pair_at editions gap 0 ≡ done (candidate_at 7 0 (pos 5))
  pub block_3 : pair_at editions gap 1 ≡ done (candidate_at 196613 1 (pos 5))
  pub block_3_last : pair_at editions gap 2 ≡ done (candidate_at 196614 2 (pos 5))
  -- the header, and from an opened column 10, 11, then the steps
  pub no_bytes : pair_at editions [] 0 ≡ refused SHORT 0
  pub in_header_first : pair_in three 6 1 3 ≡ refused HEADER 0
  pub in_length_next : pair_in three 7 1 3 ≡ refused LENGTH 0
  pub in_steps_last : pair_in three 7 0 1 ≡ done (candidate_at 2 1 (pos 140))
  pub list_some : list_pair three_pairs 1 ≡ candidate_at 2 1 (pos 140)
  pub list_none : list_pair three_pairs 3 ≡ no_candidate

pub pair_at_cases : PairAtCases
unfolding computing block_head sparse_block_lem made fives three_by two_blocks_lem with_power three three_pairs gap pair_in
pair_at_cases = search

-- block 0 with places 0 to 4095, the first 32 of 512 strides, at p 7
unfoldable pub dense_low : List ℕ
dense_low =
    fives 7 4096 (block_head 0 4096 ++ (ranks ++ (replicate 512 0xFF ++ replicate 7680 0)) ++ end_block) []
  where
    ranks : List ℕ
    ranks = bytes_of (λ i. high 2 (128 * i)) (count_from 32 0) ++ bytes_of (λ i. high 2 4096) (count_from 480 0)

pub record PairKindCases : Type 0 where
  -- a dense block by ranks and longs, on both sides of a stride's start; a full one
  pub stride_last : pair_at editions dense_low 127 ≡ done (candidate_at 127 127 (pos 5))
  pub stride_first : pair_at editions dense_low 128 ≡ done (candidate_at 128 128 (pos 5))
  pub full_last : pair_at editions (fives 0 65536 (block_head 0 65536 ++ end_block) []) 65535 ≡ done (candidate_at 65535 65535 (pos 5))

pub pair_kind_cases : PairKindCases
unfolding computing block_head sparse_block_lem made fives dense_low
pair_kind_cases = search

pub record PairDamageCases : Type 0 where
  -- a block that is not the entry's; without entries any within the limit
  pub other_block : pair_at editions (fives 0 1 (sparse_block_lem 0 (7 ∷ []) ++ end_block) ((0, 0) ∷ (0, 0) ∷ (1, 6) ∷ [])) 0 ≡ refused BROKEN 0
  pub block_5 : pair_at editions (fives 0 1 (sparse_block_lem 5 (7 ∷ []) ++ end_block) []) 0 ≡ done (candidate_at 327687 0 (pos 5))
  pub no_block : pair_at editions (fives 0 1 (sparse_block_lem 32766 (7 ∷ []) ++ end_block) []) 0 ≡ refused BROKEN 0
  -- steps 2 and 4, and an ordinal that is none of the block's
  pub head_past_end : pair_at editions (fives 0 65536 (sparse_block_lem 0 (7 ∷ []) ++ end_block) ((0, 9) ∷ [])) 0 ≡ refused BROKEN 0
  pub data_past_end : pair_at editions (fives 0 2 (block_head 0 2 ++ (7 ∷ 0 ∷ [])) []) 0 ≡ refused BROKEN 0
  pub ordinals_past : pair_at editions (fives 0 1 (sparse_block_lem 0 (7 ∷ []) ++ end_block) ((1, 0) ∷ [])) 0 ≡ refused BROKEN 0
  pub ordinal_before : pair_at editions (fives 0 3 (sparse_block_lem 0 (7 ∷ []) ++ end_block) ((1, 0) ∷ [])) 0 ≡ refused BROKEN 0
  pub ordinal_after : pair_at editions (fives 0 3 (sparse_block_lem 0 (7 ∷ []) ++ end_block) ((0, 0) ∷ [])) 1 ≡ refused BROKEN 0
  -- a rank above the index; entries as they stand
  pub rank_past : pair_at editions (dense_by 1) 0 ≡ refused BROKEN 0
  pub falling : pair_at editions (sparse_only 3 (9 ∷ 5 ∷ 1 ∷ [])) 1 ≡ done (candidate_at 5 1 (pos 5))
  pub value_too_large : pair_at editions (made 0 1 (sparse_block_lem 0 (7 ∷ []) ++ end_block) [] 1 (pos (2 ^ 63 - 1)) 1 (0x80 ∷ [])) 0 ≡ refused BROKEN 0

pub pair_damage_cases : PairDamageCases
unfolding computing block_head sparse_block_lem made fives dense_by sparse_only
pair_damage_cases = search

pub record BetweenFromCases : Type 0 where
  pub from_0 : first_between_from Runs.good 0 (pos 135) (pos 150) ≡ done (some 0)
  pub from_1 : first_between_from Runs.good 1 (pos 135) (pos 150) ≡ done (some 1)
  pub later : first_between_from Runs.good 1 (pos 135) (pos 135) ≡ done (some 2)
  pub passed : first_between_from Runs.good 1 (pos 150) (pos 150) ≡ done none
  pub at_n : first_between_from Runs.good 3 (pos 0) (pos 1000) ≡ done none
  pub turned : first_between_from Runs.good 0 (pos 150) (pos 135) ≡ done none
  -- the values before are not read
  pub after_broken : first_between_from (Runs.three_by 135 150 0 3) 1 (pos 135) (pos 135) ≡ refused BROKEN 0
  pub skipped_unread : first_between_from (Runs.three_by 135 139 0 2) 1 (pos 140) (pos 150) ≡ done none
  -- from the first run's last value into the second run
  pub second_run : from_value (λ i. some (pos 20)) Runs.two_runs_lem (pos 10) (pos 20) 16385 0 16383 ≡ done (some 16384)
  pub no_bytes : first_between_from [] 0 (pos 0) (pos 0) ≡ refused SHORT 0
  pub edition_1_cut : first_between_from (0x01 ∷ []) 0 (pos 0) (pos 1000) ≡ refused EDITION 0

pub between_from_cases : BetweenFromCases
unfolding computing headed section sections Runs.entry Runs.three_with Runs.three_by Runs.good Runs.two_runs_lem
between_from_cases = search
