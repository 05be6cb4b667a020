-- Document 02, [9], as a computed table: sections of either byte order, the reasons, and which comes first where two do. Assumes nothing.
use Rattle.format.specs.Kit.{◌≡◌, refl, true, false, ◌&&◌, List, [], ◌∷◌, ◌++◌, some, ℕ, suc, ◌+◌, length, leb, eqb}
use Rattle.format.specs.Limits.{max_block, end_number}
use Rattle.format.specs.Refusals.{Outcome, done, refused, HEADER}
use Rattle.format.specs.Bytes.{bytes_of}
use Rattle.format.specs.Ids.{block_bytes}
use Rattle.format.specs.Orders.{Order, low_byte, high_byte, bytes_in, fixed_at, longs_in, block_data_in, block_in, end_in, id_section_in}
use Rattle.format.specs.Judge.{cut_off, block_order, place_order, ones_unlike, rank_wrong, end_wrong, jump_wrong, left_over}
use Rattle.format.specs.Judge.{ranks_from, places_ok, ones_ok, ranks_ok, first_failed, tests_at, Verdict, accepted, faulty, judge_section}
use Rattle.format.proofs.Computing.{computing}

-- the same in either order
abbrev pub Both : (Order → List ℕ) → ℕ → ℕ → Outcome Verdict → Type 0
Both s p j r = (judge_section low_byte p j (s low_byte) ≡ r) × (judge_section high_byte p j (s high_byte) ≡ r)

-- a section of sparse blocks without jump entries is shorts: here a block of ids 0, 2, 7, and what follows it
unfoldable pub three : Order → List ℕ → List ℕ
three o more = bytes_of (bytes_in o 2) (0 ∷ 2 ∷ 0 ∷ 2 ∷ 7 ∷ more)

-- id 65536, whose section has three entries; of the second one the start is given
unfoldable pub later : Order → ℕ → List ℕ
later o start =
    bytes_of (bytes_in o 2) (1 ∷ 0 ∷ 0 ∷ 32767 ∷ 0 ∷ 65535 ∷ [])
    ++ bytes_of (bytes_in o 4) (0 ∷ 0 ∷ 0 ∷ start ∷ 1 ∷ 6 ∷ [])

pub record JudgeCases : Type 0 where
  -- what is high byte first
  pub written : id_section_in high_byte 9 (0 ∷ 2 ∷ 7 ∷ []) ≡ 0 ∷ 0 ∷ 0 ∷ 2 ∷ 0 ∷ 0 ∷ 0 ∷ 2 ∷ 0 ∷ 7 ∷ 0x7f ∷ 0xff ∷ 0 ∷ 0 ∷ 0xff ∷ 0xff ∷ []
  pub written_later : id_section_in high_byte 0 (65536 ∷ [])
      ≡ 0 ∷ 1 ∷ 0 ∷ 0 ∷ 0 ∷ 0 ∷ 0x7f ∷ 0xff ∷ 0 ∷ 0 ∷ 0xff ∷ 0xff
      ∷ 0 ∷ 0 ∷ 0 ∷ 0 ∷ 0 ∷ 0 ∷ 0 ∷ 0 ∷ 0 ∷ 0 ∷ 0 ∷ 0 ∷ 0 ∷ 0 ∷ 0 ∷ 0 ∷ 0 ∷ 0 ∷ 0 ∷ 1 ∷ 0 ∷ 0 ∷ 0 ∷ 6 ∷ []
  -- accepted
  pub taken : Both (λ o. three o (32767 ∷ 0 ∷ 65535 ∷ [])) 9 0 (done (accepted 3))
  pub taken_later : Both (λ o. later o 0) 0 3 (done (accepted 1))
  pub taken_empty : Both (λ o. end_in o ++ (0 ∷ 0 ∷ 0 ∷ 0 ∷ 0 ∷ 0 ∷ 0 ∷ 0 ∷ [])) 9 1 (done (accepted 0))
  -- in the other order: a count of 513, cut off
  pub other_order : judge_section low_byte 9 0 (three high_byte (32767 ∷ 0 ∷ 65535 ∷ [])) ≡ done (faulty cut_off 0)
  -- the limits, before any byte
  pub power_six : Both (λ o. []) 6 0 (refused HEADER 0)
  pub power_sixteen : Both (λ o. []) 16 0 (refused HEADER 0)
  pub entries_many : Both (λ o. []) 9 32768 (refused HEADER 0)
  -- cut off: nothing there; no whole head; an end block; data, before the number is looked at
  pub no_bytes : Both (λ o. []) 9 32767 (done (faulty cut_off 0))
  pub head_cut : Both (λ o. three o (32767 ∷ [])) 9 0 (done (faulty cut_off 10))
  pub end_cut : Both (λ o. three o (32767 ∷ 0 ∷ [])) 9 0 (done (faulty cut_off 10))
  pub data_cut : Both (λ o. three o (0 ∷ 1 ∷ 5 ∷ [])) 9 0 (done (faulty cut_off 10))
  -- block order: the same number again; 32766; above 32767; before the places are looked at
  pub again : Both (λ o. three o (0 ∷ 0 ∷ 1 ∷ [])) 9 0 (done (faulty block_order 10))
  pub above_ids : Both (λ o. three o (32766 ∷ 0 ∷ 1 ∷ [])) 9 0 (done (faulty block_order 10))
  pub above_end : Both (λ o. three o (32768 ∷ 0 ∷ 1 ∷ [])) 9 0 (done (faulty block_order 10))
  pub order_first : Both (λ o. three o (0 ∷ 1 ∷ 5 ∷ 5 ∷ [])) 9 0 (done (faulty block_order 10))
  -- place order
  pub places : Both (λ o. three o (1 ∷ 1 ∷ 5 ∷ 5 ∷ [])) 9 0 (done (faulty place_order 10))
  -- the end block: its count, its place
  pub end_count : Both (λ o. three o (32767 ∷ 1 ∷ 65535 ∷ [])) 9 0 (done (faulty end_wrong 10))
  pub end_place : Both (λ o. three o (32767 ∷ 0 ∷ 65534 ∷ [])) 9 0 (done (faulty end_wrong 10))
  -- jump entries: another count; the second is wrong; one that is cut
  pub entry_count : Both (λ o. three o (32767 ∷ 0 ∷ 65535 ∷ [])) 9 1 (done (faulty jump_wrong 16))
  pub entry_wrong : Both (λ o. later o 1) 0 3 (done (faulty jump_wrong 20))
  pub entry_cut : Both (λ o. end_in o ++ (0 ∷ 0 ∷ 0 ∷ 0 ∷ 0 ∷ 0 ∷ 0 ∷ [])) 9 1 (done (faulty jump_wrong 6))
  -- bytes left over, of which the first is named
  pub more_bytes : Both (λ o. three o (32767 ∷ 0 ∷ 65535 ∷ 5 ∷ [])) 9 0 (done (faulty left_over 16))

pub judge_cases : JudgeCases
unfolding computing id_section_in longs_in block_data_in block_in three later
judge_cases = search

-- ---- a dense block, by its tests: 8192 bytes are too many to compute with

pub record DenseJudgeCases : Type 0 where
  -- strides of one long that hold 5, 1 and 2 ones (document 01's example): ranks 0, 5, 6, each high byte first, whatever the longs' byte order
  pub ranks : ranks_from 3 6 (0 ∷ 0 ∷ 0 ∷ 5 ∷ 0 ∷ 6 ∷ bytes_of (bytes_in low_byte 8) (31 ∷ 1 ∷ 3 ∷ [])) 0 6 0 ≡ true
  pub ranks_high : ranks_from 3 6 (0 ∷ 0 ∷ 0 ∷ 5 ∷ 0 ∷ 6 ∷ bytes_of (bytes_in high_byte 8) (31 ∷ 1 ∷ 3 ∷ [])) 0 6 0 ≡ true
  pub ranks_turned : ranks_from 3 6 (0 ∷ 0 ∷ 5 ∷ 0 ∷ 6 ∷ 0 ∷ bytes_of (bytes_in low_byte 8) (31 ∷ 1 ∷ 3 ∷ [])) 0 6 0 ≡ false
  -- at p 15 two ranks, of a bitmap without ones
  pub two_ranks : ranks_ok 15 (0 ∷ 0 ∷ 0 ∷ 0 ∷ []) 0 4096 ≡ true
  pub second_wrong : ranks_ok 15 (0 ∷ 0 ∷ 0 ∷ 1 ∷ []) 0 4096 ≡ false
  pub no_ones : ones_ok 0 [] 0 4096 ≡ false
  -- sparse blocks and whole ones have neither
  pub sparse : (ranks_ok 15 (0 ∷ 0 ∷ 0 ∷ 1 ∷ []) 0 4095 ≡ true) × (ones_ok 0 [] 0 4095 ≡ true)
  pub whole : (ranks_ok 15 (0 ∷ 0 ∷ 0 ∷ 1 ∷ []) 0 65536 ≡ true) × (ones_ok 0 [] 0 65536 ≡ true)

pub dense_judge_cases : DenseJudgeCases
unfolding computing
dense_judge_cases =
    record {
      ranks = refl;
      ranks_high = refl;
      ranks_turned = refl;
      two_ranks = refl;
      second_wrong = refl;
      no_ones = refl;
      sparse = (refl, refl);
      whole = (refl, refl);
    }

module _ (o : Order) (p : ℕ) (s : List ℕ) (at next : ℕ) where
  abbrev k : ℕ
  k = fixed_at o 2 s at

  abbrev c : ℕ
  c = suc (fixed_at o 2 s (at + 2))

  module _ (block : eqb k end_number ≡ false) (head : leb (at + 4) (length s) ≡ true) (whole : leb (at + block_bytes p c) (length s) ≡ true)
      (after : leb next k && leb k max_block ≡ true) (places : places_ok o s (at + 4) c ≡ true) where
    -- ones unlike the count are told before a rank
    pub ones_told : ones_ok p s (at + 4) c ≡ false → first_failed (tests_at o p s at next) ≡ some ones_unlike
    unfolding first_failed tests_at
    ones_told ones = rw (block, head, whole, after, places, ones)

    pub rank_told : ones_ok p s (at + 4) c ≡ true → ranks_ok p s (at + 4) c ≡ false → first_failed (tests_at o p s at next) ≡ some rank_wrong
    unfolding first_failed tests_at
    rank_told ones ranks = rw (block, head, whole, after, places, ones, ranks)
