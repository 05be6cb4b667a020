-- Document 02, [6], on both sides of its lines, as computed tables: edition 2's packing and widths, its columns, what readers say to it, and
-- the number that the writer is told. Assumes nothing.
use Rattle.format.specs.Kit.{◌≡◌, List, [], ◌∷◌, ◌++◌, some, ℕ, ◌^◌, ◌-◌, length, replicate, pos}
use Rattle.format.specs.Refusals.{Outcome, done, refused, and_then, LENGTHS, POWER, EDITION, HEADER, DAMAGED, ID, BACK}
use Rattle.format.specs.BitsLow.{packed_low}
use Rattle.format.specs.Editions.{plain, lucene, editions, lucene_widths, first_enough}
use Rattle.format.specs.Column.{column}
use Rattle.format.specs.Writer.{write}
use Rattle.format.specs.Opening.{open_column}
use Rattle.format.specs.Check.{check, reading}
use Rattle.format.specs.LookUp.{found, absent, look_up}
use Rattle.format.specs.Walk.{Seen, seen, walk}
use Rattle.format.specs.Next.{candidate_at, next}
use Rattle.format.proofs.Computing.{computing}
use Rattle.format.proofs.Pins.{headed, section}

-- ids 0, 2, 7 at p 9 in edition 2, with a width, the smallest value 135, divisor 5 and these value bytes
unfoldable pub three_low : ℕ → List ℕ → List ℕ
three_low w xs = headed (2 ∷ 3 ∷ 9 ∷ 16 ∷ 0 ∷ w ∷ 270 ∷ 5 ∷ length xs ∷ []) (section ++ xs)

unfoldable pub walked_low : List ℕ → ℕ → Outcome Seen
walked_low bytes id = and_then (open_column editions bytes) (λ c. done (walk bytes c id))

-- ---- packing and widths

pub record LowCases : Type 0 where
  -- stored 1, 1, 1, 0, 2, 2, 0, 0 at width 2 gives 15 0A
  pub pack : packed_low 2 (1 ∷ 1 ∷ 1 ∷ 0 ∷ 2 ∷ 2 ∷ 0 ∷ 0 ∷ []) ≡ 0x15 ∷ 0x0A ∷ []
  -- across bytes at width 12, and no padding after the last byte
  pub pack_12 : packed_low 12 (0xABC ∷ 0x123 ∷ 0xF0F ∷ []) ≡ 0xBC ∷ 0x3A ∷ 0x12 ∷ 0x0F ∷ 0x0F ∷ []
  -- the least width that suffices: 1, 2, 4, 8, 12, .., 56, 64, or 0
  pub none : first_enough lucene_widths 0 ≡ 0
  pub to_1 : first_enough lucene_widths 1 ≡ 1
  pub from_2 : first_enough lucene_widths 2 ≡ 2
  pub from_4 : first_enough lucene_widths 4 ≡ 4
  pub to_8 : first_enough lucene_widths 255 ≡ 8
  pub from_12 : first_enough lucene_widths 256 ≡ 12
  pub to_32 : first_enough lucene_widths (2 ^ 32 - 1) ≡ 32
  pub from_40 : first_enough lucene_widths (2 ^ 32) ≡ 40
  pub to_56 : first_enough lucene_widths (2 ^ 56 - 1) ≡ 56
  pub from_64 : first_enough lucene_widths (2 ^ 56) ≡ 64
  pub widest : first_enough lucene_widths (2 ^ 64 - 1) ≡ 64

pub low_cases : LowCases
unfolding computing
low_cases = search

-- ---- columns and readers

pub record LuceneCases : Type 0 where
  -- document 01's first column in edition 2: stored 3, 1, 0 at width 2 are 07
  pub three : column lucene 9 (0 ∷ 2 ∷ 7 ∷ []) (pos 150 ∷ pos 140 ∷ pos 135 ∷ []) ≡ three_low 2 (0x07 ∷ [])
  pub written : write 2 9 (0 ∷ 2 ∷ 7 ∷ []) (pos 150 ∷ pos 140 ∷ pos 135 ∷ []) 27 ≡ done (three_low 2 (0x07 ∷ []))
  -- and that of no pairs
  pub empty : column lucene 9 [] []
      ≡ (0x02 ∷ 0x00 ∷ 0x09 ∷ 0x0E ∷ 0x01 ∷ 0x00 ∷ 0x00 ∷ 0x01 ∷ 0x00 ∷ 0xFF ∷ 0x7F ∷ 0x00 ∷ 0x00 ∷ 0xFF ∷ 0xFF ∷ []) ++ replicate 8 0
  -- readers take it
  pub checked : check editions (three_low 2 (0x07 ∷ [])) ≡ done 3
  pub read : reading editions (three_low 2 (0x07 ∷ [])) 3 3
      ≡ done (record { ids = 0 ∷ 2 ∷ 7 ∷ []; values = pos 150 ∷ pos 140 ∷ pos 135 ∷ [] })
  pub looked : look_up editions (three_low 2 (0x07 ∷ [])) 2 ≡ done (found 1 (pos 140) 0)
  pub not_there : look_up editions (three_low 2 (0x07 ∷ [])) 3 ≡ done (absent 0)
  pub walked : walked_low (three_low 2 (0x07 ∷ [])) 2 ≡ done (seen 1 (some (pos 140)))
  pub nexted : next editions (three_low 2 (0x07 ∷ [])) 0 3 ≡ done (candidate_at 7 2 (pos 135))
  -- a width that is not in the list is HEADER, and one that is not the least is no column
  pub width_3 : check editions (three_low 3 (0x0B ∷ 0x00 ∷ [])) ≡ refused HEADER 0
  pub width_65 : check editions (three_low 65 (replicate 25 0)) ≡ refused HEADER 0
  pub width_4 : check editions (three_low 4 (0x13 ∷ 0x00 ∷ [])) ≡ refused DAMAGED 0
  -- a spare bit; padding after the last byte; edition 1's bits
  pub spare_bit : check editions (three_low 2 (0x47 ∷ [])) ≡ refused DAMAGED 0
  pub padded : check editions (three_low 2 (0x07 ∷ 0x00 ∷ [])) ≡ refused HEADER 0
  pub high_first_is : check editions (three_low 2 (0xD0 ∷ [])) ≡ refused DAMAGED 0
  -- a reader of edition 1 alone
  pub alone : check (plain ∷ []) (three_low 2 (0x07 ∷ [])) ≡ refused EDITION 0
  pub alone_looking : look_up (plain ∷ []) (three_low 2 (0x07 ∷ [])) 2 ≡ refused EDITION 0
  pub alone_id : look_up (plain ∷ []) (three_low 2 (0x07 ∷ [])) 2147352576 ≡ refused ID 0
  pub alone_back : next (plain ∷ []) (three_low 2 (0x07 ∷ [])) 3 2 ≡ refused BACK 0
  pub alone_next : next (plain ∷ []) (three_low 2 (0x07 ∷ [])) 2 2 ≡ refused EDITION 0

pub lucene_cases : LuceneCases
unfolding computing headed section three_low walked_low
lucene_cases = search

-- ---- the number that the writer is told

pub record ToldCases : Type 0 where
  -- after LENGTHS and before POWER
  pub none : write 0 9 [] [] 100 ≡ refused EDITION 0
  pub nine : write 9 9 [] [] 100 ≡ refused EDITION 0
  pub after_lengths : write 9 9 [] (pos 1 ∷ []) 100 ≡ refused LENGTHS 0
  pub before_power : write 9 6 [] [] 100 ≡ refused EDITION 0
  pub one_power : write 1 6 [] [] 100 ≡ refused POWER 0
  pub two_power : write 2 6 [] [] 100 ≡ refused POWER 0

pub told_cases : ToldCases
unfolding computing
told_cases = search
