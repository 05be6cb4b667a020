-- The next candidate (document 02, [1]) as a computed table, each line worked out by hand: on columns, and on bytes that are none. (All ids
-- absent is computed for targets near the greatest id alone: the definition takes each id in turn.) Assumes nothing.
use Rattle.format.specs.Kit.{◌≡◌, List, [], ◌∷◌, ◌++◌, ℕ, ◌+◌, ◌*◌, ◌^◌, ◌-◌, replicate, pos}
use Rattle.format.specs.Refusals.{Outcome, done, refused, and_then, SHORT, HEADER, LENGTH, ID, BROKEN, BACK}
use Rattle.format.specs.Bytes.{bytes_of, high, count_from}
use Rattle.format.specs.Ids.{end_block}
use Rattle.format.specs.Editions.{editions}
use Rattle.format.specs.Pairs.{Pairs}
use Rattle.format.specs.Opening.{open_column}
use Rattle.format.specs.Next.{Candidate, candidate_at, no_candidate, next, next_in, list_next, in_sequence}
use Rattle.format.proofs.Computing.{computing}
use Rattle.format.proofs.PinsSteps.{block_head, sparse_block_lem, made, fives, three_by, dense_by, two_blocks_lem, with_power}

-- ids 0, 2, 7 with values 150, 140, 135: the column, and the list
unfoldable pub three : List ℕ
three = three_by (0 ∷ 2 ∷ 7 ∷ []) 2 (pos 135) 5 (0xD0 ∷ [])

unfoldable pub three_pairs : Pairs
three_pairs = record { ids = 0 ∷ 2 ∷ 7 ∷ []; values = pos 150 ∷ pos 140 ∷ pos 135 ∷ [] }

-- block 0 with these places
unfoldable pub sparse_only : ℕ → List ℕ → List ℕ
sparse_only n rs = fives 0 n (sparse_block_lem 0 rs ++ end_block) []

-- block 0 with places 61440 to 65535, the last 32 of 512 strides, at p 7
unfoldable pub dense_high : List ℕ
dense_high =
    fives 7 4096 (block_head 0 4096 ++ (ranks ++ (replicate 7680 0 ++ replicate 512 0xFF)) ++ end_block) []
  where
    ranks : List ℕ
    ranks = replicate 960 0 ++ bytes_of (λ i. high 2 (128 * i)) (count_from 32 0)

-- block 0 with place 7 and block 3 with places 5 and 6, and its jump entries
unfoldable pub gap : List ℕ
gap = fives 0 3 two_blocks_lem ((0, 0) ∷ (1, 6) ∷ (1, 6) ∷ (1, 6) ∷ (3, 14) ∷ [])

-- from an opened column that has this rank power, and starts so many bytes later
unfoldable pub next_from : List ℕ → ℕ → ℕ → ℕ → ℕ → Outcome Candidate
next_from bytes p later last t =
    and_then (open_column editions bytes) (λ c.
    next_in bytes (record { head = with_power p c.head; start = c.start + later }) last t)

pub record NextCases : Type 0 where
  -- at a listed id, between two, at the last, above it
  pub at_first : next editions three 0 0 ≡ done (candidate_at 0 0 (pos 150))
  pub between : next editions three 0 1 ≡ done (candidate_at 2 1 (pos 140))
  pub at_last : next editions three 2 7 ≡ done (candidate_at 7 2 (pos 135))
  pub above_last : next editions three 7 2147352575 ≡ done no_candidate
  pub below_first : next editions (sparse_only 1 (7 ∷ [])) 0 0 ≡ done (candidate_at 7 0 (pos 5))
  pub empty_column : next editions (fives 0 0 end_block []) 0 2147352575 ≡ done no_candidate
  pub greatest_id : next editions (fives 0 1 (sparse_block_lem 32765 (65535 ∷ []) ++ end_block) []) 0 2147352570 ≡ done (candidate_at 2147352575 0 (pos 5))
  -- 14, then 16, then the header: any cursor is fit, and an equal target is fine
  pub id_first : next editions three 4294967295 2147352576 ≡ refused ID 0
  pub back : next editions three 3 2 ≡ refused BACK 0
  pub equal : next editions three 2 2 ≡ done (candidate_at 2 1 (pos 140))
  pub back_before_header : next editions [] 1 0 ≡ refused BACK 0
  pub header_next : next editions [] 0 0 ≡ refused SHORT 0
  -- one after the other: a target that repeats, BACK, which keeps the cursor, none, which moves it, and going back after none
  pub sequence : in_sequence (next editions three) 0 (1 ∷ 1 ∷ 0 ∷ 1 ∷ 7 ∷ 2147352576 ∷ 2147352575 ∷ 2147352574 ∷ 2147352575 ∷ [])
      ≡ done (candidate_at 2 1 (pos 140)) ∷ done (candidate_at 2 1 (pos 140)) ∷ refused BACK 0 ∷ done (candidate_at 2 1 (pos 140))
      ∷ done (candidate_at 7 2 (pos 135)) ∷ refused ID 0 ∷ done no_candidate ∷ refused BACK 0 ∷ done no_candidate ∷ []
  pub list_sequence : in_sequence (list_next three_pairs) 0 (1 ∷ 1 ∷ 0 ∷ 1 ∷ 7 ∷ 2147352576 ∷ 8 ∷ 7 ∷ 2147352575 ∷ [])
      ≡ done (candidate_at 2 1 (pos 140)) ∷ done (candidate_at 2 1 (pos 140)) ∷ refused BACK 0 ∷ done (candidate_at 2 1 (pos 140))
      ∷ done (candidate_at 7 2 (pos 135)) ∷ refused ID 0 ∷ done no_candidate ∷ refused BACK 0 ∷ done no_candidate ∷ []
  pub empty_list : list_next (record { ids = []; values = [] }) 0 0 ≡ done no_candidate

pub next_cases : NextCases
unfolding computing block_head sparse_block_lem made fives three_by three three_pairs sparse_only
next_cases = search

pub record NextKindCases : Type 0 where
  -- each kind at both ends, and into the next block over a missing one
  pub sparse_first : next editions (sparse_only 2 (0 ∷ 65535 ∷ [])) 0 0 ≡ done (candidate_at 0 0 (pos 5))
  pub sparse_last : next editions (sparse_only 2 (0 ∷ 65535 ∷ [])) 0 65530 ≡ done (candidate_at 65535 1 (pos 5))
  pub dense_first : next editions (dense_by 0) 0 0 ≡ done (candidate_at 0 0 (pos 5))
  pub dense_up : next editions dense_high 0 61438 ≡ done (candidate_at 61440 0 (pos 5))
  pub dense_last : next editions dense_high 0 65535 ≡ done (candidate_at 65535 4095 (pos 5))
  pub full_first : next editions (fives 0 65536 (block_head 0 65536 ++ end_block) []) 0 0 ≡ done (candidate_at 0 0 (pos 5))
  pub full_last : next editions (fives 0 65536 (block_head 0 65536 ++ end_block) []) 0 65535 ≡ done (candidate_at 65535 65535 (pos 5))
  pub over_missing : next editions gap 0 196600 ≡ done (candidate_at 196613 1 (pos 5))

pub next_kind_cases : NextKindCases
unfolding computing block_head sparse_block_lem made fives dense_by two_blocks_lem sparse_only dense_high gap
next_kind_cases = search

pub record NextDamageCases : Type 0 where
  -- with entries, a block below the id's is BROKEN: block 1 has no entry of its own; from block 0 the place is found first
  pub lower_block : next editions (fives 0 1 (sparse_block_lem 0 (7 ∷ []) ++ end_block) ((0, 0) ∷ [])) 0 65530 ≡ refused BROKEN 0
  pub before_lower : next editions (fives 0 1 (sparse_block_lem 0 (7 ∷ []) ++ end_block) ((0, 0) ∷ [])) 0 6 ≡ done (candidate_at 7 0 (pos 5))
  -- data past the blocks' end, a head past it, ordinals past n: BROKEN, though the target itself is not there
  pub data_past_end : next editions (fives 0 2 (block_head 0 2 ++ (7 ∷ 0 ∷ [])) []) 0 9 ≡ refused BROKEN 0
  pub head_past_end : next editions (fives 0 65536 (sparse_block_lem 0 (7 ∷ []) ++ end_block) ((0, 9) ∷ [])) 0 0 ≡ refused BROKEN 0
  pub ordinals_past : next editions (fives 0 1 (sparse_block_lem 0 (7 ∷ []) ++ end_block) ((1, 0) ∷ [])) 0 8 ≡ refused BROKEN 0
  -- an inner place not below c decides when its turn comes
  pub inner_below : next editions (dense_by 1) 0 4094 ≡ done (candidate_at 4094 4095 (pos 5))
  pub inner_past : next editions (dense_by 1) 0 4095 ≡ refused BROKEN 0
  -- entries out of order: the scan for each id stops at the first that is it or above, so the first entry at or above the target decides
  pub dip : next editions (sparse_only 3 (0 ∷ 7 ∷ 2 ∷ [])) 0 1 ≡ done (candidate_at 7 1 (pos 5))
  pub falling : next editions (sparse_only 3 (9 ∷ 5 ∷ 1 ∷ [])) 0 5 ≡ done (candidate_at 9 0 (pos 5))
  pub level : next editions (sparse_only 3 (5 ∷ 5 ∷ 5 ∷ [])) 0 5 ≡ done (candidate_at 5 0 (pos 5))
  -- a value of more than 64 bits is BROKEN when its id's turn comes
  pub value_too_large : next editions (made 0 1 (sparse_block_lem 0 (7 ∷ []) ++ end_block) [] 1 (pos (2 ^ 63 - 1)) 1 (0x80 ∷ [])) 0 5 ≡ refused BROKEN 0
  -- from an opened column: 14, 16, 10, 11, then the steps
  pub in_id_first : next_from three 6 1 3 2147352576 ≡ refused ID 0
  pub in_back_next : next_from three 6 1 3 2 ≡ refused BACK 0
  pub in_header_next : next_from three 6 1 1 1 ≡ refused HEADER 0
  pub in_length_next : next_from three 7 1 1 1 ≡ refused LENGTH 0
  pub in_steps_last : next_from three 7 0 1 1 ≡ done (candidate_at 2 1 (pos 140))

pub next_damage_cases : NextDamageCases
unfolding computing block_head sparse_block_lem made fives three_by dense_by with_power three sparse_only next_from
next_damage_cases = search
