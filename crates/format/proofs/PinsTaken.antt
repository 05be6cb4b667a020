-- The bytes that a fetch takes (document 02, [5]), as one computed table: every width from 0 to 64, every index from 0 to 16. What is expected
-- was counted bit by bit: the different bytes among (iw + k) div 8, k below w. And the numbers: those of every width come back. Assumes nothing.
use Rattle.format.specs.Kit.{◌≡◌, List, [], ◌∷◌, map, ℕ, zero, suc, ◌+◌, ◌*◌, ◌-◌, ◌^◌}
use Rattle.format.specs.Bytes.{count_from}
use Rattle.format.specs.Bits.{fetched_bytes}
use Rattle.format.specs.Codec.{Packing}
use Rattle.format.specs.Editions.{high_first, low_first, lucene_widths}
use Rattle.format.proofs.Computing.{computing}

-- the counts of indices 0 to n - 1, a decimal digit each, index 0 first
unfoldable pub counts_to : ℕ → ℕ → ℕ
counts_to zero w = 0
counts_to (suc n) w = counts_to n w * 10 + fetched_bytes w n

unfoldable pub counts : ℕ → ℕ
counts w = counts_to 17 w

pub record TakenCases : Type 0 where
  pub width_0 : counts 0 ≡ 0
  pub width_1 : counts 1 ≡ 11111111111111111
  pub width_2 : counts 2 ≡ 11111111111111111
  pub width_3 : counts 3 ≡ 11211211112112111
  pub width_4 : counts 4 ≡ 11111111111111111
  pub width_5 : counts 5 ≡ 12122121121221211
  pub width_6 : counts 6 ≡ 12211221122112211
  pub width_7 : counts 7 ≡ 12222221122222211
  pub width_8 : counts 8 ≡ 11111111111111111
  pub width_9 : counts 9 ≡ 22222222222222222
  pub width_10 : counts 10 ≡ 22222222222222222
  pub width_11 : counts 11 ≡ 22322322223223222
  pub width_12 : counts 12 ≡ 22222222222222222
  pub width_13 : counts 13 ≡ 23233232232332322
  pub width_14 : counts 14 ≡ 23322332233223322
  pub width_15 : counts 15 ≡ 23333332233333322
  pub width_16 : counts 16 ≡ 22222222222222222
  pub width_17 : counts 17 ≡ 33333333333333333
  pub width_18 : counts 18 ≡ 33333333333333333
  pub width_19 : counts 19 ≡ 33433433334334333
  pub width_20 : counts 20 ≡ 33333333333333333
  pub width_21 : counts 21 ≡ 34344343343443433
  pub width_22 : counts 22 ≡ 34433443344334433
  pub width_23 : counts 23 ≡ 34444443344444433
  pub width_24 : counts 24 ≡ 33333333333333333
  pub width_25 : counts 25 ≡ 44444444444444444
  pub width_26 : counts 26 ≡ 44444444444444444
  pub width_27 : counts 27 ≡ 44544544445445444
  pub width_28 : counts 28 ≡ 44444444444444444
  pub width_29 : counts 29 ≡ 45455454454554544
  pub width_30 : counts 30 ≡ 45544554455445544
  pub width_31 : counts 31 ≡ 45555554455555544
  pub width_32 : counts 32 ≡ 44444444444444444
  pub width_33 : counts 33 ≡ 55555555555555555
  pub width_34 : counts 34 ≡ 55555555555555555
  pub width_35 : counts 35 ≡ 55655655556556555
  pub width_36 : counts 36 ≡ 55555555555555555
  pub width_37 : counts 37 ≡ 56566565565665655
  pub width_38 : counts 38 ≡ 56655665566556655
  pub width_39 : counts 39 ≡ 56666665566666655
  pub width_40 : counts 40 ≡ 55555555555555555
  pub width_41 : counts 41 ≡ 66666666666666666
  pub width_42 : counts 42 ≡ 66666666666666666
  pub width_43 : counts 43 ≡ 66766766667667666
  pub width_44 : counts 44 ≡ 66666666666666666
  pub width_45 : counts 45 ≡ 67677676676776766
  pub width_46 : counts 46 ≡ 67766776677667766
  pub width_47 : counts 47 ≡ 67777776677777766
  pub width_48 : counts 48 ≡ 66666666666666666
  pub width_49 : counts 49 ≡ 77777777777777777
  pub width_50 : counts 50 ≡ 77777777777777777
  pub width_51 : counts 51 ≡ 77877877778778777
  pub width_52 : counts 52 ≡ 77777777777777777
  pub width_53 : counts 53 ≡ 78788787787887877
  pub width_54 : counts 54 ≡ 78877887788778877
  pub width_55 : counts 55 ≡ 78888887788888877
  pub width_56 : counts 56 ≡ 77777777777777777
  pub width_57 : counts 57 ≡ 88888888888888888
  pub width_58 : counts 58 ≡ 88888888888888888
  pub width_59 : counts 59 ≡ 88988988889889888
  pub width_60 : counts 60 ≡ 88888888888888888
  pub width_61 : counts 61 ≡ 89899898898998988
  pub width_62 : counts 62 ≡ 89988998899889988
  pub width_63 : counts 63 ≡ 89999998899999988
  pub width_64 : counts 64 ≡ 88888888888888888

pub taken_cases : TakenCases
unfolding computing counts_to counts
taken_cases = search

-- the least and the greatest number of a width by turns, so that each has neighbours of other bits
unfoldable pub ends : ℕ → List ℕ
ends w = 0 ∷ (2 ^ w - 1) ∷ 0 ∷ (2 ^ w - 1) ∷ []

unfoldable pub back : Packing → ℕ → List ℕ
back p w = map (p.fetch (p.pack w (ends w)) w) (count_from 4 0)

pub record BackCases : Type 0 where
  pub every_width : map (back high_first) (count_from 65 0) ≡ map ends (count_from 65 0)
  pub listed_widths : map (back low_first) lucene_widths ≡ map ends lucene_widths

pub back_cases : BackCases
unfolding computing ends back
back_cases = search
