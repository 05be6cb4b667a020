-- Document 02, [10], as computed tables: the correction on top, refusals of either column, words of each, and the part handed back.
-- Assumes nothing.
use Rattle.format.specs.Kit.{◌≡◌, List, [], ◌∷◌, ◌++◌, ℕ, ◌+◌, replicate, pos}
use Rattle.format.specs.Refusals.{Outcome, done, and_then, SHORT, EDITION, HEADER, LENGTH, ID, BROKEN}
use Rattle.format.specs.Ids.{end_block}
use Rattle.format.specs.Editions.{editions}
use Rattle.format.specs.Opening.{open_column}
use Rattle.format.specs.Layered.{machine, correction, LayeredLook, found_in, absent_in, refused_by, look_up_layered, look_up_layered_in}
use Rattle.format.specs.Layered.{part, section_in, part_by, layered_part}
use Rattle.format.proofs.Computing.{computing}
use Rattle.format.proofs.PinsSteps.{block_head, sparse_block_lem, made, fives, three_by, dense_bare, with_power}

-- a machine column: ids 0, 2, 7 with values 150, 140, 135, p 9; its value section is byte 26
unfoldable pub three : List ℕ
three = three_by (0 ∷ 2 ∷ 7 ∷ []) 2 (pos 135) 5 (0xD0 ∷ [])

-- a correction: ids 2, 9 with values 100, 105, p 7; its value section is byte 24
unfoldable pub mended : List ℕ
mended = made 7 2 (sparse_block_lem 0 (2 ∷ 9 ∷ []) ++ end_block) [] 1 (pos 100) 5 (0x40 ∷ [])

-- a correction without pairs
unfoldable pub nothing : List ℕ
nothing = made 9 0 end_block ((0, 0) ∷ []) 0 (pos 0) 1 []

-- block 0 with place 7, but the ordinal is past n: step 4 fails
unfoldable pub broken_at7 : List ℕ
broken_at7 = fives 0 1 (sparse_block_lem 0 (7 ∷ []) ++ end_block) ((1, 0) ∷ [])

-- places 4096 to 8191 of block 0 at p 15, each value 9; `dense_bare` has 0 to 4095 without ranks, each value 5
unfoldable pub dense_above : List ℕ
dense_above =
    made 15 4096
    (block_head 0 4096 ++ ((0 ∷ 0 ∷ 0x10 ∷ 0 ∷ []) ++ (replicate 512 0 ++ replicate 512 0xFF ++ replicate 7168 0) ++ end_block)) [] 0 (pos 9) 1 []

pub record LayeredCases : Type 0 where
  -- in both, in one, in neither
  pub in_both : look_up_layered editions three mended 2 ≡ found_in correction 0 (pos 100) 0 0
  pub in_correction : look_up_layered editions three mended 9 ≡ found_in correction 1 (pos 105) 0 0
  pub in_machine : look_up_layered editions three mended 7 ≡ found_in machine 2 (pos 135) 0 0
  pub in_neither : look_up_layered editions three mended 8 ≡ absent_in 0 0
  -- the other way round the machine column is the one underneath
  pub turned : look_up_layered editions mended three 2 ≡ found_in correction 1 (pos 140) 0 0
  pub no_pairs : look_up_layered editions three nothing 2 ≡ found_in machine 1 (pos 140) 0 0
  pub no_pairs_at_all : look_up_layered editions nothing nothing 2 ≡ absent_in 0 0
  -- 14 is the correction's
  pub id_above : look_up_layered editions three mended 2147352576 ≡ refused_by correction ID 0
  pub id_limit : look_up_layered editions three mended 2147352575 ≡ absent_in 0 0
  -- a refusal by the correction refuses the call, though the machine column has the id
  pub correction_no_bytes : look_up_layered editions three [] 2 ≡ refused_by correction SHORT 0
  pub correction_edition : look_up_layered editions three (0 ∷ []) 2 ≡ refused_by correction EDITION 0
  pub correction_broken : look_up_layered editions three broken_at7 7 ≡ refused_by correction BROKEN 0
  -- the machine column is not looked in where the correction answers, and its refusal is the call's where the id is absent there
  pub machine_no_bytes : look_up_layered editions [] mended 2 ≡ found_in correction 0 (pos 100) 0 0
  pub machine_refuses : look_up_layered editions [] mended 7 ≡ refused_by machine SHORT 0
  pub machine_broken : look_up_layered editions broken_at7 mended 7 ≡ refused_by machine BROKEN 0
  pub both_refuse : look_up_layered editions [] broken_at7 7 ≡ refused_by correction BROKEN 0
  -- the words of each column apart, each by its own rank power
  pub words_correction : look_up_layered editions dense_bare dense_above 8191 ≡ found_in correction 4095 (pos 9) 0 128
  pub words_machine : look_up_layered editions dense_bare dense_above 4095 ≡ found_in machine 4095 (pos 5) 64 1
  pub words_neither : look_up_layered editions dense_bare dense_above 8192 ≡ absent_in 1 1
  pub words_sparse_on_top : look_up_layered editions dense_bare mended 4095 ≡ found_in machine 4095 (pos 5) 64 0
  pub words_sparse_below : look_up_layered editions mended dense_bare 4096 ≡ absent_in 0 1
  -- the same column twice
  pub same_twice : look_up_layered editions three three 2 ≡ found_in correction 1 (pos 140) 0 0
  pub same_twice_absent : look_up_layered editions dense_bare dense_bare 4096 ≡ absent_in 1 1

pub layered_cases : LayeredCases
unfolding computing block_head sparse_block_lem made fives three_by dense_bare three mended nothing broken_at7 dense_above
layered_cases = search

-- ---- from opened columns

-- both opened, the machine column with this rank power, the correction to start so many bytes later
unfoldable pub layered_in : List ℕ → ℕ → List ℕ → ℕ → ℕ → Outcome LayeredLook
layered_in m p c later id =
    and_then (open_column editions m) (λ x.
    and_then (open_column editions c) (λ y.
    done (look_up_layered_in m (record { head = with_power p x.head; start = x.start }) c (record { head = y.head; start = y.start + later }) id)))

pub record LayeredInCases : Type 0 where
  pub opened_both : layered_in three 9 mended 0 2 ≡ done (found_in correction 0 (pos 100) 0 0)
  pub opened_machine : layered_in three 9 mended 0 7 ≡ done (found_in machine 2 (pos 135) 0 0)
  -- numbers that do not fit, of either column; the machine column's are not looked at where the correction answers
  pub numbers_correction : layered_in three 6 mended 1 7 ≡ done (refused_by correction LENGTH 0)
  pub numbers_machine : layered_in three 6 mended 0 7 ≡ done (refused_by machine HEADER 0)
  pub numbers_unseen : layered_in three 6 mended 0 2 ≡ done (found_in correction 0 (pos 100) 0 0)

pub layered_in_cases : LayeredInCases
unfolding computing block_head sparse_block_lem made three_by with_power three mended layered_in
layered_in_cases = search

-- ---- the part

pub record LayeredPartCases : Type 0 where
  pub of_both : layered_part editions three mended 2 ≡ part correction 24 1
  pub of_machine : layered_part editions three mended 7 ≡ part machine 26 1
  -- a column whose values are all equal has a value section of no bytes, at its end
  pub of_no_bytes : layered_part editions three (fives 0 1 (sparse_block_lem 0 (7 ∷ []) ++ end_block) []) 7 ≡ part correction 21 0
  -- absent or refused: an empty part of the machine column
  pub of_neither : layered_part editions three mended 8 ≡ part machine 0 0
  pub of_refused : layered_part editions three broken_at7 7 ≡ part machine 0 0
  pub of_machine_refused : layered_part editions broken_at7 mended 7 ≡ part machine 0 0
  pub of_machine_no_bytes : layered_part editions [] mended 2 ≡ part correction 24 1
  pub of_same_twice : layered_part editions three three 2 ≡ part correction 26 1

pub layered_part_cases : LayeredPartCases
unfolding computing block_head sparse_block_lem made fives three_by three mended broken_at7 section_in part_by layered_part
layered_part_cases = search
