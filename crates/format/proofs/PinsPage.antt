-- A page of ids (document 02, [3]) as computed tables: the reply, and the three lists afterwards. The answers are those of PinsSteps.
-- Assumes nothing.
use Rattle.format.specs.Kit.{◌≡◌, List, [], ◌∷◌, ◌++◌, ℕ, ◌-◌, ◌^◌, length, ℤ, pos}
use Rattle.format.specs.Refusals.{Outcome, done, refused, BUFFER}
use Rattle.format.specs.Ids.{end_block}
use Rattle.format.specs.Editions.{editions}
use Rattle.format.specs.LookUp.{Look, absent}
use Rattle.format.specs.Page.{place_kind, place_ordinal, place_value, page, page_reply, page_after}
use Rattle.format.proofs.Computing.{computing}
use Rattle.format.proofs.PinsSteps.{block_head, sparse_block_lem, made, fives, three_by, dense_by}

-- what stands in the lists before
unfoldable pub sevens : List ℕ
sevens = 7 ∷ 7 ∷ 7 ∷ 7 ∷ []

unfoldable pub nines : List ℤ
nines = pos 9 ∷ pos 9 ∷ pos 9 ∷ pos 9 ∷ []

-- reply, ordinals, values and kinds
abbrev pub Page : Type 0
Page = Outcome ℕ × List ℕ × List ℤ × List ℕ

-- a page in these lists
unfoldable pub page_in : List ℕ → List ℕ → List ℕ → List ℤ → List ℕ → Page
page_in bytes ids os vs ks =
    let p : Outcome (List (Outcome Look)) = page editions bytes ids (length os) (length vs) (length ks) in
    (page_reply p, page_after place_ordinal p os, page_after place_value p vs, page_after place_kind p ks)

-- in lists of four places
unfoldable pub four : List ℕ → List ℕ → Page
four bytes ids = page_in bytes ids sevens nines sevens

-- ids 0, 2 and 7 with values 150, 140 and 135
unfoldable pub three : List ℕ
three = three_by (0 ∷ 2 ∷ 7 ∷ []) 2 (pos 135) 5 (0xD0 ∷ [])

pub record PageCases : Type 0 where
  -- found with 64 words, absent with 1, BROKEN and ID without; the dense block's rank is 1 too great
  pub each_kind : four (dense_by 1) (4094 ∷ 4096 ∷ 4095 ∷ 2147352576 ∷ [])
      ≡ (done 65, 4095 ∷ 0 ∷ 0 ∷ 0 ∷ [], pos 5 ∷ pos 0 ∷ pos 0 ∷ pos 0 ∷ [], 0 ∷ 1 ∷ 15 ∷ 14 ∷ [])
  -- ids that fall; ids again, each with its words; places after the ids
  pub falling : four three (7 ∷ 2 ∷ 1 ∷ 0 ∷ []) ≡ (done 0, 2 ∷ 1 ∷ 0 ∷ 0 ∷ [], pos 135 ∷ pos 140 ∷ pos 0 ∷ pos 150 ∷ [], 0 ∷ 0 ∷ 1 ∷ 0 ∷ [])
  pub again : four (dense_by 0) (4095 ∷ 0 ∷ 4095 ∷ 4095 ∷ [])
      ≡ (done 193, 4095 ∷ 0 ∷ 4095 ∷ 4095 ∷ [], pos 5 ∷ pos 5 ∷ pos 5 ∷ pos 5 ∷ [], 0 ∷ 0 ∷ 0 ∷ 0 ∷ [])
  pub places_after : four three (7 ∷ []) ≡ (done 0, 2 ∷ 7 ∷ 7 ∷ 7 ∷ [], pos 135 ∷ pos 9 ∷ pos 9 ∷ pos 9 ∷ [], 0 ∷ 7 ∷ 7 ∷ 7 ∷ [])
  -- a header that is refused: SHORT, NUMBER, EDITION, HEADER, LENGTH, each without its number; above the limit it is ID
  pub short_header : four (1 ∷ []) (7 ∷ 2147352576 ∷ 2147352575 ∷ [])
      ≡ (done 0, 0 ∷ 0 ∷ 0 ∷ 7 ∷ [], pos 0 ∷ pos 0 ∷ pos 0 ∷ pos 9 ∷ [], 7 ∷ 14 ∷ 7 ∷ 7 ∷ [])
  pub bad_number : four (0x80 ∷ 0x00 ∷ []) (7 ∷ 2147352576 ∷ [])
      ≡ (done 0, 0 ∷ 0 ∷ 7 ∷ 7 ∷ [], pos 0 ∷ pos 0 ∷ pos 9 ∷ pos 9 ∷ [], 8 ∷ 14 ∷ 7 ∷ 7 ∷ [])
  pub edition_9 : four (9 ∷ []) (7 ∷ 2147352576 ∷ [])
      ≡ (done 0, 0 ∷ 0 ∷ 7 ∷ 7 ∷ [], pos 0 ∷ pos 0 ∷ pos 9 ∷ pos 9 ∷ [], 9 ∷ 14 ∷ 7 ∷ 7 ∷ [])
  pub bad_header : four (fives 6 1 (sparse_block_lem 0 (7 ∷ []) ++ end_block) []) (7 ∷ 2147352576 ∷ [])
      ≡ (done 0, 0 ∷ 0 ∷ 7 ∷ 7 ∷ [], pos 0 ∷ pos 0 ∷ pos 9 ∷ pos 9 ∷ [], 10 ∷ 14 ∷ 7 ∷ 7 ∷ [])
  pub bad_length : four (three ++ (0 ∷ [])) (7 ∷ 2147352576 ∷ [])
      ≡ (done 0, 0 ∷ 0 ∷ 7 ∷ 7 ∷ [], pos 0 ∷ pos 0 ∷ pos 9 ∷ pos 9 ∷ [], 11 ∷ 14 ∷ 7 ∷ 7 ∷ [])
  -- each list one short: the needed count, and nothing is changed
  pub ordinals_short : page_in three (7 ∷ 2 ∷ []) (7 ∷ []) nines sevens ≡ (refused BUFFER 2, 7 ∷ [], nines, sevens)
  pub values_short : page_in three (7 ∷ 2 ∷ []) sevens (pos 9 ∷ []) sevens ≡ (refused BUFFER 2, sevens, pos 9 ∷ [], sevens)
  pub kinds_short : page_in three (7 ∷ 2 ∷ []) sevens nines (7 ∷ []) ≡ (refused BUFFER 2, sevens, nines, 7 ∷ [])
  -- BUFFER comes before the header and ID
  pub buffer_first : page_in [] (2147352576 ∷ []) [] nines sevens ≡ (refused BUFFER 1, [], nines, sevens)
  -- no ids
  pub no_ids : four [] [] ≡ (done 0, sevens, nines, sevens)
  pub no_places : page_in [] [] [] [] [] ≡ (done 0, [], [], [])
  -- the sum of words wraps
  pub words_wrap : page_reply (done (done (absent (2 ^ 64 - 1)) ∷ done (absent 3) ∷ [])) ≡ done 2

pub page_cases : PageCases
unfolding computing block_head sparse_block_lem made fives three_by dense_by sevens nines page_in four three
page_cases = search
