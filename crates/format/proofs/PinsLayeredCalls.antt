-- A page and a reading with a correction on top, as computed tables, each line worked out by hand: on columns, and on bytes that are none. (That no
-- pair is left is computed near the greatest id alone: `next` takes each id in turn.) Assumes nothing.
use Rattle.format.specs.Kit.{◌≡◌, Bool, true, false, List, [], ◌∷◌, ◌++◌, none, some, ℕ, ◌+◌, ◌-◌, ◌^◌, ℤ, pos}
use Rattle.format.specs.Refusals.{Outcome, done, refused, and_then, SHORT, HEADER, LENGTH, BUFFER, ID, BROKEN}
use Rattle.format.specs.Bytes.{count_from}
use Rattle.format.specs.Pairs.{Pairs}
use Rattle.format.specs.Ids.{end_block}
use Rattle.format.specs.Editions.{editions}
use Rattle.format.specs.Opening.{open_column}
use Rattle.format.specs.Walk.{in_block, words}
use Rattle.format.specs.Layered.{Layer, machine, correction, LayeredLook, found_in, absent_in, refused_by}
use Rattle.format.specs.LayeredPage.{layered_kind, layered_ordinal, layered_value, layered_column, layered_page, layered_page_in, layered_reply}
use Rattle.format.specs.LayeredPage.{layered_after, lists_page, machine_formula, correction_formula}
use Rattle.format.specs.LayeredReading.{LayeredPair, LayeredRead, read_to, refused_read, read_layered, read_layered_in, pair_id, pair_value, pair_column}
use Rattle.format.specs.LayeredReading.{count_to, refused_count, layered_read_reply, layered_read_after, merged, lists_read, pair_with, calls_from}
use Rattle.format.proofs.Computing.{computing}
use Rattle.format.proofs.PinsSteps.{block_head, sparse_block_lem, made, fives, three_by, dense_bare, with_power}
use Rattle.format.proofs.PinsLayered.{three, mended, broken_at7, dense_above}
use Rattle.format.proofs.PinsReadFrom.{last_block_lem, last_three}

-- ---- a page

-- in both, in the correction, in the machine column, in neither, above the greatest id
unfoldable pub five_ids : List ℕ
five_ids = 2 ∷ 9 ∷ 7 ∷ 8 ∷ 2147352576 ∷ []

unfoldable pub five_looked : Outcome (List LayeredLook)
five_looked = layered_page editions three mended five_ids 5 6 5 5

-- both opened, the machine column with this rank power, the correction to start so many bytes later
unfoldable pub page_in : ℕ → ℕ → List ℕ → Outcome (List LayeredLook)
page_in p later ids =
    and_then (open_column editions three) (λ x.
    and_then (open_column editions mended) (λ y.
    layered_page_in three (record { head = with_power p x.head; start = x.start }) mended (record { head = y.head; start = y.start + later }) ids 2 2 2 2))

-- their lists
unfoldable pub machine_pairs : Pairs
machine_pairs = record { ids = 0 ∷ 2 ∷ 7 ∷ []; values = pos 150 ∷ pos 140 ∷ pos 135 ∷ [] }

unfoldable pub correction_pairs : Pairs
correction_pairs = record { ids = 2 ∷ 9 ∷ []; values = pos 100 ∷ pos 105 ∷ [] }

pub record LayeredPageCases : Type 0 where
  pub each : five_looked
      ≡ done (found_in correction 0 (pos 100) 0 0 ∷ found_in correction 1 (pos 105) 0 0 ∷ found_in machine 2 (pos 135) 0 0 ∷ absent_in 0 0
      ∷ refused_by correction ID 0 ∷ [])
  -- the lists, of which the places after the ids stay
  pub kinds : layered_after layered_kind five_looked (6 ∷ 6 ∷ 6 ∷ 6 ∷ 6 ∷ 6 ∷ []) ≡ 0 ∷ 0 ∷ 0 ∷ 1 ∷ 14 ∷ 6 ∷ []
  pub ordinals : layered_after layered_ordinal five_looked (6 ∷ 6 ∷ 6 ∷ 6 ∷ 6 ∷ []) ≡ 0 ∷ 1 ∷ 2 ∷ 0 ∷ 0 ∷ []
  pub values : layered_after layered_value five_looked (pos 6 ∷ pos 6 ∷ pos 6 ∷ pos 6 ∷ pos 6 ∷ []) ≡ pos 100 ∷ pos 105 ∷ pos 135 ∷ pos 0 ∷ pos 0 ∷ []
  pub columns : layered_after layered_column five_looked (6 ∷ 6 ∷ 6 ∷ 6 ∷ 6 ∷ []) ≡ 1 ∷ 1 ∷ 0 ∷ 0 ∷ 1 ∷ []
  -- a place that a column refuses names it
  pub machine_refuses : layered_page editions broken_at7 mended (2 ∷ 7 ∷ []) 2 2 2 2 ≡ done (found_in correction 0 (pos 100) 0 0 ∷ refused_by machine BROKEN 0 ∷ [])
  pub correction_refuses : layered_after layered_column (layered_page editions three broken_at7 (7 ∷ []) 1 1 1 1) (6 ∷ []) ≡ 1 ∷ []
  -- a list that is too short: 12 with the number of ids, whatever the bytes are, and nothing changes
  pub few_ordinals : layered_page editions [] [] (1 ∷ 2 ∷ []) 1 2 2 2 ≡ refused BUFFER 2
  pub few_values : layered_page editions [] [] (1 ∷ 2 ∷ []) 2 1 2 2 ≡ refused BUFFER 2
  pub few_kinds : layered_page editions [] [] (1 ∷ 2 ∷ []) 2 2 1 2 ≡ refused BUFFER 2
  pub few_columns : layered_page editions [] [] (1 ∷ 2 ∷ []) 2 2 2 1 ≡ refused BUFFER 2
  pub no_ids : layered_page editions [] [] [] 0 0 0 0 ≡ done []
  pub refused_keeps : layered_after layered_kind (layered_page editions [] [] (1 ∷ 2 ∷ []) 2 2 2 1) (6 ∷ 6 ∷ []) ≡ 6 ∷ 6 ∷ []
  -- the sums of words, the machine column's first: 0 + 64 + 1 and 128 + 1 + 1
  pub sums : layered_reply (layered_page editions dense_bare dense_above (8191 ∷ 4095 ∷ 8192 ∷ []) 3 3 3 3) ≡ done (65, 130)
  pub no_sums : layered_reply (layered_page editions [] [] (1 ∷ 2 ∷ []) 2 2 2 1) ≡ refused BUFFER 2
  -- from opened columns
  pub opened_both : page_in 9 0 (2 ∷ 7 ∷ []) ≡ done (found_in correction 0 (pos 100) 0 0 ∷ found_in machine 2 (pos 135) 0 0 ∷ [])
  pub numbers_machine : page_in 6 0 (2 ∷ 7 ∷ []) ≡ done (found_in correction 0 (pos 100) 0 0 ∷ refused_by machine HEADER 0 ∷ [])
  pub numbers_correction : page_in 6 1 (2 ∷ 7 ∷ []) ≡ done (refused_by correction LENGTH 0 ∷ refused_by correction LENGTH 0 ∷ [])
  -- the lists' own, and their words: none in the machine column where the correction lists the id, none above the greatest id
  pub lists : lists_page 9 machine_pairs 7 correction_pairs five_ids 5 5 5 5 ≡ five_looked
  pub formula_seen : machine_formula 15 (record { ids = count_from 4096 0; values = [] }) correction_pairs 3 ≡ 1
  pub formula_unseen : machine_formula 15 (record { ids = count_from 4096 0; values = [] }) correction_pairs 2 ≡ 0
  pub formula_above : correction_formula 15 correction_pairs 2147352576 ≡ 0

pub layered_page_cases : LayeredPageCases
unfolding computing block_head sparse_block_lem made fives three_by dense_bare with_power three mended broken_at7 dense_above five_ids five_looked page_in machine_pairs
    correction_pairs in_block words
layered_page_cases = search

-- ---- a reading

-- a correction for `last_three` (2147352570, 2147352573 and 2147352575): ids 2147352571 and 2147352573, each value 9
unfoldable pub last_two : List ℕ
last_two = made 0 2 (sparse_block_lem 32765 (65531 ∷ 65533 ∷ []) ++ end_block) [] 0 (pos 9) 1 []

-- ids 2147352570 and 2147352573, of which the second's value is above 64 bits: 15
unfoldable pub late_broken : List ℕ
late_broken = made 0 2 (sparse_block_lem 32765 (65530 ∷ 65533 ∷ []) ++ end_block) [] 1 (pos (2 ^ 63 - 1)) 1 (0x40 ∷ [])

unfoldable pub by : Layer → ℕ → ℤ → LayeredPair
by layer id v = record { layer = layer; id = id; value = v }

unfoldable pub to : List LayeredPair → Bool → LayeredRead
to ps e = read_to (record { pairs = ps; ended = e })

-- all of them: the correction's where both have the id
unfoldable pub all_four : List LayeredPair
all_four =
    by machine 2147352570 (pos 5) ∷ by correction 2147352571 (pos 9) ∷ by correction 2147352573 (pos 9) ∷ by machine 2147352575 (pos 5) ∷ []

-- both opened, as `page_in`
unfoldable pub read_in : ℕ → ℕ → ℕ → ℕ → Outcome LayeredRead
read_in p later t room =
    and_then (open_column editions last_three) (λ x.
    and_then (open_column editions last_two) (λ y.
    done (read_layered_in last_three (record { head = with_power p x.head; start = x.start }) last_two
    (record { head = y.head; start = y.start + later }) t room)))

pub record LayeredReadCases : Type 0 where
  -- with room to spare and without, and fewer
  pub spare : read_layered editions last_three last_two 2147352570 5 ≡ to all_four true
  pub just_full : read_layered editions last_three last_two 2147352570 4 ≡ to all_four true
  pub fewer : read_layered editions last_three last_two 2147352570 2 ≡ to (by machine 2147352570 (pos 5) ∷ by correction 2147352571 (pos 9) ∷ []) false
  -- a tie goes to the correction, whichever column that is
  pub tie : read_layered editions last_three last_two 2147352572 1 ≡ to (by correction 2147352573 (pos 9) ∷ []) false
  pub tie_turned : read_layered editions last_two last_three 2147352572 1 ≡ to (by correction 2147352573 (pos 5) ∷ []) false
  -- one column has no more pairs, neither has
  pub machine_alone : read_layered editions last_three last_two 2147352574 2 ≡ to (by machine 2147352575 (pos 5) ∷ []) true
  pub correction_alone : read_layered editions last_two last_three 2147352574 2 ≡ to (by correction 2147352575 (pos 5) ∷ []) true
  pub none_left : read_layered editions last_two last_two 2147352574 2 ≡ to [] true
  -- no room: whether a pair is left, or the refusal
  pub no_room : read_layered editions last_three last_two 2147352570 0 ≡ to [] false
  pub no_room_ended : read_layered editions last_two last_two 2147352574 0 ≡ to [] true
  pub no_room_refused : read_layered editions late_broken last_two 2147352571 0 ≡ refused_read machine BROKEN 0
  -- 14, then the correction's header and first step, then the machine column's
  pub id_first : read_layered editions [] [] 2147352576 4 ≡ refused_read correction ID 0
  pub correction_header : read_layered editions [] [] 2147352570 4 ≡ refused_read correction SHORT 0
  pub correction_fails : read_layered editions [] late_broken 2147352571 4 ≡ refused_read correction BROKEN 0
  pub machine_header : read_layered editions [] last_two 2147352570 4 ≡ refused_read machine SHORT 0
  -- though the correction has a smaller id, or this one
  pub machine_fails : read_layered editions late_broken last_two 2147352571 4 ≡ refused_read machine BROKEN 0
  pub machine_fails_at_tie : read_layered editions late_broken last_two 2147352573 4 ≡ refused_read machine BROKEN 0
  -- a failed step after a pair ends the pairs
  pub failed_later : read_layered editions late_broken last_two 2147352570 4 ≡ to (by machine 2147352570 (pos (2 ^ 63 - 1)) ∷ []) false
  pub failed_on_top : read_layered editions last_two late_broken 2147352570 4 ≡ to (by correction 2147352570 (pos (2 ^ 63 - 1)) ∷ []) false
  -- the reply and the lists
  pub reply : layered_read_reply (read_layered editions last_three last_two 2147352572 4) ≡ count_to 2 true
  pub reply_refused : layered_read_reply (read_layered editions [] last_two 2147352570 4) ≡ refused_count machine SHORT 0
  pub ids_after_is : layered_read_after pair_id (read_layered editions last_three last_two 2147352572 4) (1 ∷ 2 ∷ 3 ∷ []) ≡ 2147352573 ∷ 2147352575 ∷ 3 ∷ []
  pub values_after_is : layered_read_after pair_value (read_layered editions last_three last_two 2147352572 4) (pos 1 ∷ pos 2 ∷ pos 3 ∷ []) ≡ pos 9 ∷ pos 5 ∷ pos 3 ∷ []
  pub columns_after : layered_read_after pair_column (read_layered editions last_three last_two 2147352572 4) (7 ∷ 7 ∷ 7 ∷ []) ≡ 1 ∷ 0 ∷ 7 ∷ []
  pub refused_keeps : layered_read_after pair_id (read_layered editions [] last_two 2147352570 4) (1 ∷ 2 ∷ []) ≡ 1 ∷ 2 ∷ []
  -- from opened columns: 14, 10 and 11 of the correction, of the machine column, then the steps
  pub in_id_first : read_in 6 1 2147352576 4 ≡ done (refused_read correction ID 0)
  pub in_correction_next : read_in 6 1 2147352570 4 ≡ done (refused_read correction LENGTH 0)
  pub in_machine_next : read_in 6 0 2147352570 4 ≡ done (refused_read machine HEADER 0)
  pub in_steps_last : read_in 0 0 2147352570 4 ≡ done (to all_four true)
  -- calls one after the other
  pub calls : calls_from 3 1 (read_layered editions last_three last_two) 2147352571
      ≡ by correction 2147352571 (pos 9) ∷ by correction 2147352573 (pos 9) ∷ by machine 2147352575 (pos 5) ∷ []
  -- the lists' own
  pub one_list : merged machine_pairs correction_pairs
      ≡ by machine 0 (pos 150) ∷ by correction 2 (pos 100) ∷ by machine 7 (pos 135) ∷ by correction 9 (pos 105) ∷ []
  pub list_some : lists_read machine_pairs correction_pairs 1 1 ≡ to (by correction 2 (pos 100) ∷ []) false
  pub list_rest : lists_read machine_pairs correction_pairs 3 2 ≡ to (by machine 7 (pos 135) ∷ by correction 9 (pos 105) ∷ []) true
  pub list_above : lists_read machine_pairs correction_pairs 10 2 ≡ to [] true
  pub list_limit : lists_read machine_pairs correction_pairs 2147352576 2 ≡ refused_read correction ID 0
  pub has_pair : pair_with 2 (merged machine_pairs correction_pairs) ≡ some (by correction 2 (pos 100))
  pub no_pair_is : pair_with 8 (merged machine_pairs correction_pairs) ≡ none

pub layered_read_cases : LayeredReadCases
unfolding computing block_head sparse_block_lem made fives with_power last_block_lem last_three last_two late_broken by to all_four read_in machine_pairs correction_pairs
layered_read_cases = search
