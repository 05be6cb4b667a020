-- Document 02, [11], on both sides of its lines, as computed tables: edition 3's columns, a directory that is off, and the question.
-- Assumes nothing.
use Rattle.format.specs.Kit.{◌≡◌, List, [], ◌∷◌, ◌++◌, Option, none, some, ℕ, ◌^◌, ◌-◌, cond, eqb, length, replicate, ℤ, pos, negsuc}
use Rattle.format.specs.Refusals.{Outcome, done, refused, and_then, SHORT, EDITION, HEADER, LENGTH, DAMAGED, BROKEN}
use Rattle.format.specs.Bytes.{low}
use Rattle.format.specs.Editions.{plain, runs, editions, codec}
use Rattle.format.specs.Column.{column}
use Rattle.format.specs.ValueRuns.{Summary, run_count, run_section}
use Rattle.format.specs.Opening.{open_column}
use Rattle.format.specs.Check.{check, reading}
use Rattle.format.specs.LookUp.{found, absent, look_up}
use Rattle.format.specs.Next.{candidate_at, next}
use Rattle.format.specs.FirstBetween.{runs_from, first_between, first_between_in}
use Rattle.format.proofs.Computing.{computing}
use Rattle.format.proofs.Pins.{headed, section, sections, three, lowest, highest}

-- a run's bytes in the directory, smallest and greatest as unsigned numbers
unfoldable pub entry : ℕ → ℕ → ℕ → ℕ → List ℕ
entry a b start w = low 8 a ++ (low 8 b ++ (low 8 start ++ (w ∷ [])))

-- ids 0, 2, 7 at p 9 in edition 3, with header numbers 6 to 8 and these value bytes
unfoldable pub three_with : ℕ → ℕ → ℕ → List ℕ → List ℕ
three_with w m g xs = headed (3 ∷ 3 ∷ 9 ∷ 16 ∷ 0 ∷ w ∷ m ∷ g ∷ length xs ∷ []) (section ++ xs)

-- with g 5 and this entry, and stored 3, 1, 0 at width 2
unfoldable pub three_by : ℕ → ℕ → ℕ → ℕ → List ℕ
three_by a b start w = three_with 0 0 5 (entry a b start w ++ (0xD0 ∷ []))

-- the column of 150, 140, 135
unfoldable pub good : List ℕ
good = three_by 135 150 0 2

-- ---- columns and readers

pub record RunCases : Type 0 where
  pub three_runs : column runs 9 (0 ∷ 2 ∷ 7 ∷ []) (pos 150 ∷ pos 140 ∷ pos 135 ∷ [])
      ≡ (0x03 ∷ 0x03 ∷ 0x09 ∷ 0x10 ∷ 0x00 ∷ 0x00 ∷ 0x00 ∷ 0x05 ∷ 0x1A ∷ []) ++ (section ++ ((0x87 ∷ replicate 7 0) ++ ((0x96 ∷ replicate 7 0)
      ++ (replicate 8 0 ++ (0x02 ∷ 0xD0 ∷ [])))))
  pub same_as : good ≡ column runs 9 (0 ∷ 2 ∷ 7 ∷ []) (pos 150 ∷ pos 140 ∷ pos 135 ∷ [])
  -- no pairs: no directory, g 1
  pub empty : column runs 9 [] []
      ≡ (0x03 ∷ 0x00 ∷ 0x09 ∷ 0x0E ∷ 0x01 ∷ 0x00 ∷ 0x00 ∷ 0x01 ∷ 0x00 ∷ 0xFF ∷ 0x7F ∷ 0x00 ∷ 0x00 ∷ 0xFF ∷ 0xFF ∷ []) ++ replicate 8 0
  -- one pair: its summary is all; -1 in two's complement
  pub one : column runs 0 (5 ∷ []) (negsuc 0 ∷ [])
      ≡ (0x03 ∷ 0x01 ∷ 0x00 ∷ 0x0C ∷ 0x00 ∷ 0x00 ∷ 0x00 ∷ 0x01 ∷ 0x19 ∷ 0x00 ∷ 0x00 ∷ 0x00 ∷ 0x00 ∷ 0x05 ∷ 0x00 ∷ 0xFF ∷ 0x7F ∷ 0x00 ∷ 0x00 ∷ 0xFF ∷ 0xFF ∷ [])
      ++ (replicate 16 0xFF ++ replicate 9 0)
  -- the smallest and the greatest value together
  pub widest : (codec runs).section (lowest ∷ highest ∷ [])
      ≡ (replicate 7 0 ++ (0x80 ∷ [])) ++ ((replicate 7 0xFF ++ (0x7F ∷ [])) ++ (replicate 8 0 ++ (0x01 ∷ 0x40 ∷ [])))
  -- runs of one g, written each with its own smallest value and least width, on the first byte after the run before: stored 3, 1, 0 at width 2; 0, 3, 7 at
  -- width 3; one value at width 0, which has no byte (runs of 16384, and any number of them, are `run-stands` in crate laws)
  pub runs_written : run_section 5 ((pos 150 ∷ pos 140 ∷ pos 135 ∷ []) ∷ (pos 7 ∷ pos 22 ∷ pos 42 ∷ []) ∷ (pos 9 ∷ []) ∷ [])
      ≡ entry 135 150 0 2 ++ (entry 7 42 1 3 ++ (entry 9 9 3 0 ++ (0xD0 ∷ 0x0F ∷ 0x80 ∷ [])))
  -- runs of 16384
  pub no_run : run_count 0 ≡ 0
  pub one_run : run_count 16384 ≡ 1
  pub two_runs : run_count 16385 ≡ 2
  pub last_of_first : (codec runs).value 16385 (record { width = 0; smallest = 0; divisor = 1 }) (entry 5 5 0 0 ++ entry 9 9 0 0) 16383 ≡ some (pos 5)
  pub first_of_second : (codec runs).value 16385 (record { width = 0; smallest = 0; divisor = 1 }) (entry 5 5 0 0 ++ entry 9 9 0 0) 16384 ≡ some (pos 9)
  -- readers take it
  pub checked : check editions good ≡ done 3
  pub read : reading editions good 3 3 ≡ done (record { ids = 0 ∷ 2 ∷ 7 ∷ []; values = pos 150 ∷ pos 140 ∷ pos 135 ∷ [] })
  pub looked : look_up editions good 2 ≡ done (found 1 (pos 140) 0)
  pub not_there : look_up editions good 3 ≡ done (absent 0)
  pub nexted : next editions good 0 3 ≡ done (candidate_at 7 2 (pos 135))
  pub alone : look_up (plain ∷ []) good 2 ≡ refused EDITION 0
  -- header smallest and w are 0, g is at least 1, V at least 25 bytes a run
  pub width_1 : check editions (three_with 1 0 5 (entry 135 150 0 2 ++ (0xD0 ∷ []))) ≡ refused HEADER 0
  pub smallest_1 : check editions (three_with 0 1 5 (entry 135 150 0 2 ++ (0xD0 ∷ []))) ≡ refused HEADER 0
  pub divisor_0 : check editions (three_with 0 0 0 (entry 135 150 0 2 ++ (0xD0 ∷ []))) ≡ refused HEADER 0
  pub bytes_24 : check editions (three_with 0 0 5 (replicate 24 0)) ≡ refused HEADER 0
  pub bytes_25 : check editions (three_with 0 0 5 (replicate 25 0)) ≡ refused DAMAGED 0

pub run_cases : RunCases
unfolding computing headed section entry three_with three_by good lowest highest
run_cases = search

-- ---- a directory that is off: the check, and a look-up by step 7

pub record DirectoryCases : Type 0 where
  pub smallest_off : check editions (three_by 136 150 0 2) ≡ refused DAMAGED 0
  pub smallest_looked : look_up editions (three_by 136 150 0 2) 2 ≡ done (found 1 (pos 141) 0)
  pub greatest_off : check editions (three_by 135 151 0 2) ≡ refused DAMAGED 0
  pub greatest_looked : look_up editions (three_by 135 151 0 2) 2 ≡ done (found 1 (pos 140) 0)
  pub start_off : check editions (three_by 135 150 1 2) ≡ refused DAMAGED 0
  pub start_looked : look_up editions (three_by 135 150 1 2) 2 ≡ refused BROKEN 0
  pub start_past : look_up editions (three_by 135 150 (2 ^ 64 - 1) 2) 2 ≡ refused BROKEN 0
  pub width_off : check editions (three_by 135 150 0 3) ≡ refused DAMAGED 0
  -- 110 100 00: the third number reaches past the section
  pub width_looked : look_up editions (three_by 135 150 0 3) 2 ≡ done (found 1 (pos 155) 0)
  pub width_reaches : look_up editions (three_by 135 150 0 3) 7 ≡ refused BROKEN 0
  pub width_64 : look_up editions (three_by 135 150 0 64) 0 ≡ refused BROKEN 0
  pub width_65 : look_up editions (three_with 0 0 5 (entry 135 150 0 65 ++ replicate 25 0)) 0 ≡ refused BROKEN 0
  -- width 0 reaches nowhere
  pub width_0 : look_up editions (three_by 135 150 (2 ^ 64 - 1) 0) 7 ≡ done (found 2 (pos 135) 0)
  pub width_0_off : check editions (three_by 135 135 0 0) ≡ refused DAMAGED 0
  -- a spare bit; a byte after the last run; another g
  pub spare_bit : check editions (three_with 0 0 5 (entry 135 150 0 2 ++ (0xD1 ∷ []))) ≡ refused DAMAGED 0
  pub byte_after : check editions (three_with 0 0 5 (entry 135 150 0 2 ++ (0xD0 ∷ 0x00 ∷ []))) ≡ refused DAMAGED 0
  pub divisor_one : check editions (three_with 0 0 1 (entry 135 138 0 2 ++ (0xD0 ∷ []))) ≡ done 3
  pub divisor_apart : check editions (three_with 0 0 5 (entry 135 150 0 2 ++ (0xC0 ∷ []))) ≡ refused DAMAGED 0
  -- a value that does not fit
  pub value_out : look_up editions (three_by (2 ^ 63 - 1) (2 ^ 63 - 1) 0 2) 2 ≡ refused BROKEN 0

pub directory_cases : DirectoryCases
unfolding computing headed section entry three_with three_by good
directory_cases = search

-- ---- the question

-- two runs, whose first has the values from 0 to 9 and whose second 20
unfoldable pub two_runs_lem : ℕ → Summary
two_runs_lem r = cond (eqb r 0) (record { smallest = pos 0; greatest = pos 9; start = 0; width = 0 })
    (record { smallest = pos 20; greatest = pos 20; start = 0; width = 0 })

unfoldable pub asked_in : List ℕ → ℤ → ℤ → Outcome (Option ℕ)
asked_in bytes a b = and_then (open_column editions bytes) (λ c. first_between_in bytes c a b)

pub record BetweenCases : Type 0 where
  pub first : first_between good (pos 0) (pos 1000) ≡ done (some 0)
  pub second : first_between good (pos 140) (pos 149) ≡ done (some 1)
  pub smallest_alone : first_between good (pos 135) (pos 135) ≡ done (some 2)
  pub none_between : first_between good (pos 136) (pos 139) ≡ done none
  pub all_below : first_between good (pos 151) (pos 1000) ≡ done none
  pub all_above : first_between good (negsuc 0) (pos 134) ≡ done none
  pub no_pairs : first_between (column runs 9 [] []) (negsuc 0) (pos 0) ≡ done none
  -- a > b gives none, whatever the run would give
  pub turned : first_between good (pos 150) (pos 135) ≡ done none
  pub turned_broken : first_between (three_by 135 150 0 65) (pos 150) (pos 135) ≡ done none
  -- a run is skipped unread by its summary alone, else its values in turn, a failed one being BROKEN
  pub skipped_unread : first_between (three_by 135 139 0 2) (pos 140) (pos 150) ≡ done none
  pub skipped_broken : first_between (three_by 135 150 0 65) (pos 151) (pos 160) ≡ done none
  pub not_skipped : first_between (three_by 135 150 0 65) (pos 150) (pos 160) ≡ refused BROKEN 0
  pub before_broken : first_between (three_by 135 150 0 3) (pos 150) (pos 165) ≡ done (some 0)
  pub at_broken : first_between (three_by 135 150 0 3) (pos 135) (pos 135) ≡ refused BROKEN 0
  -- the second run begins at ordinal 16384
  pub second_run : runs_from (λ i. some (pos 20)) two_runs_lem (pos 10) (pos 20) 16385 2 0 ≡ done (some 16384)
  -- 7 to 11 first, 9 as soon as the first number is read
  pub no_bytes : first_between [] (pos 0) (pos 0) ≡ refused SHORT 0
  pub edition_1 : first_between (three 9) (pos 0) (pos 1000) ≡ refused EDITION 0
  pub edition_1_cut : first_between (0x01 ∷ []) (pos 0) (pos 1000) ≡ refused EDITION 0
  pub edition_3_cut : first_between (0x03 ∷ []) (pos 0) (pos 1000) ≡ refused SHORT 1
  pub header : first_between (three_with 1 0 5 (entry 135 150 0 2 ++ (0xD0 ∷ []))) (pos 1) (pos 0) ≡ refused HEADER 0
  pub longer : first_between (good ++ (0 ∷ [])) (pos 1) (pos 0) ≡ refused LENGTH 0
  -- from an opened column
  pub opened : asked_in good (pos 140) (pos 149) ≡ done (some 1)
  pub opened_edition_1 : asked_in (three 9) (pos 140) (pos 149) ≡ refused EDITION 0

pub between_cases : BetweenCases
unfolding computing headed section sections three entry three_with three_by good two_runs_lem asked_in
between_cases = search
