-- Step 5 by halving (document 02, [8]), as computed tables: what is found, and with how many probes. Those of 0 to 3 entries are worked
-- out by hand; those of 4094 and 4095 entries were counted by a script of a few lines, written from the request's words alone.
-- Assumes nothing.
use Rattle.format.specs.Kit.{◌≡◌, List, [], ◌∷◌, ◌++◌, map, none, some, ℕ, ◌+◌, ◌*◌, pos}
use Rattle.format.specs.Refusals.{done}
use Rattle.format.specs.Bytes.{count_from}
use Rattle.format.specs.Ids.{end_block}
use Rattle.format.specs.Editions.{editions}
use Rattle.format.specs.LookUp.{found, absent, Sought, hit, miss, halving, scanned, look_up, look_up_probes}
use Rattle.format.specs.Walk.{probes}
use Rattle.format.proofs.Computing.{computing}
use Rattle.format.proofs.PinsSteps.{block_head, sparse_block_lem, made, fives, second_by, dense_by}

-- c entries 1, 4, 7 and so on
unfoldable pub spaced : ℕ → List ℕ
spaced c = map (λ i. 3 * i + 1) (count_from c 0)

-- each of these places sought among c such entries
unfoldable pub halvings : ℕ → List ℕ → List Sought
halvings c rs =
    let xs : List ℕ = spaced c in
    map (λ r. halving r xs) rs

pub record HalvingCases : Type 0 where
  -- no entry: nothing to probe
  pub none_0 : halving 1 [] ≡ miss 0
  -- one entry: it is probed
  pub first_1 : halving 1 (1 ∷ []) ≡ hit 0 1
  pub below_1 : halving 0 (1 ∷ []) ≡ miss 1
  pub above_1 : halving 2 (1 ∷ []) ≡ miss 1
  -- two entries: index 1 is probed first, then index 0; past index 1 nothing is left
  pub first_2 : halving 1 (1 ∷ 4 ∷ []) ≡ hit 0 2
  pub last_2 : halving 4 (1 ∷ 4 ∷ []) ≡ hit 1 1
  pub below_2 : halving 0 (1 ∷ 4 ∷ []) ≡ miss 2
  pub between_2 : halving 2 (1 ∷ 4 ∷ []) ≡ miss 2
  pub above_2 : halving 5 (1 ∷ 4 ∷ []) ≡ miss 1
  -- three entries: index 1 is probed first, then index 0 or 2
  pub first_3 : halving 1 (1 ∷ 4 ∷ 7 ∷ []) ≡ hit 0 2
  pub middle_3 : halving 4 (1 ∷ 4 ∷ 7 ∷ []) ≡ hit 1 1
  pub last_3 : halving 7 (1 ∷ 4 ∷ 7 ∷ []) ≡ hit 2 2
  pub below_3 : halving 0 (1 ∷ 4 ∷ 7 ∷ []) ≡ miss 2
  pub between_3 : halving 5 (1 ∷ 4 ∷ 7 ∷ []) ≡ miss 2
  pub above_3 : halving 8 (1 ∷ 4 ∷ 7 ∷ []) ≡ miss 2
  -- one less than the most that a sparse block has, and the most: the first, the second, the middle and the last entry; below all, between two, above all
  pub many_4094 : halvings 4094 (1 ∷ 4 ∷ 6142 ∷ 12280 ∷ 0 ∷ 6143 ∷ 12281 ∷ [])
      ≡ hit 0 12 ∷ hit 1 11 ∷ hit 2047 1 ∷ hit 4093 11 ∷ miss 12 ∷ miss 12 ∷ miss 11 ∷ []
  pub most_4095 : halvings 4095 (1 ∷ 4 ∷ 6142 ∷ 12283 ∷ 0 ∷ 6143 ∷ 12284 ∷ [])
      ≡ hit 0 12 ∷ hit 1 11 ∷ hit 2047 1 ∷ hit 4094 12 ∷ miss 12 ∷ miss 12 ∷ miss 12 ∷ []
  -- entries out of order, which the check refuses: what the scan passes by, what it stops before, and another index than its
  pub falling : halving 5 (9 ∷ 5 ∷ 1 ∷ []) ≡ hit 1 1
  pub falling_scanned : scanned 5 (9 ∷ 5 ∷ 1 ∷ []) ≡ none
  pub dip : halving 5 (5 ∷ 3 ∷ 9 ∷ []) ≡ miss 2
  pub dip_scanned : scanned 5 (5 ∷ 3 ∷ 9 ∷ []) ≡ some 0
  pub level : halving 5 (5 ∷ 5 ∷ 5 ∷ []) ≡ hit 1 1
  pub level_scanned : scanned 5 (5 ∷ 5 ∷ 5 ∷ []) ≡ some 0

pub halving_cases : HalvingCases
unfolding computing spaced halvings
halving_cases = search

-- ---- in a column

-- block 0 with these places
unfoldable pub only : ℕ → List ℕ → List ℕ
only n rs = fives 0 n (sparse_block_lem 0 rs ++ end_block) []

pub record ProbeCases : Type 0 where
  -- sparse: found and absent alike
  pub first : look_up_probes editions (only 3 (1 ∷ 4 ∷ 7 ∷ [])) 1 ≡ 2
  pub middle : look_up_probes editions (only 3 (1 ∷ 4 ∷ 7 ∷ [])) 4 ≡ 1
  pub between : look_up_probes editions (only 3 (1 ∷ 4 ∷ 7 ∷ [])) 5 ≡ 2
  -- 63 entries: at the last one, and above it, six are halved away
  pub many_found : look_up_probes editions (only 63 (spaced 63)) 187 ≡ 6
  pub many_absent : look_up_probes editions (only 63 (spaced 63)) 188 ≡ 6
  -- the answer on entries out of order is the rule's own: the scan would say absent, 0 and 0
  pub falling_found : look_up editions (only 3 (9 ∷ 5 ∷ 1 ∷ [])) 5 ≡ done (found 1 (pos 5) 0)
  pub dip_absent : look_up editions (only 3 (5 ∷ 3 ∷ 9 ∷ [])) 5 ≡ done (absent 0)
  pub level_found : look_up editions (only 3 (5 ∷ 5 ∷ 5 ∷ [])) 5 ≡ done (found 1 (pos 5) 0)
  -- other kinds
  pub full_block : look_up_probes editions (fives 0 65536 (block_head 0 65536 ++ end_block) []) 65535 ≡ 0
  pub dense_found : look_up_probes editions (dense_by 0) 4095 ≡ 0
  pub dense_absent : look_up_probes editions (dense_by 0) 4096 ≡ 0
  -- no header; no block is entered: another block stands there; its head, its data or its ids do not fit
  pub no_header : look_up_probes editions [] 7 ≡ 0
  pub entered_second : look_up_probes editions (second_by ((9, 9) ∷ (0, 0) ∷ (9, 9) ∷ [])) 65537 ≡ 1
  pub other_block : look_up_probes editions (only 1 (7 ∷ [])) 65543 ≡ 0
  pub head_past_end : look_up_probes editions (fives 0 65536 (sparse_block_lem 0 (7 ∷ []) ++ (0 ∷ [])) ((0, 4) ∷ [])) 7 ≡ 0
  pub data_past_end : look_up_probes editions (fives 0 2 (block_head 0 2 ++ (7 ∷ 0 ∷ [])) []) 7 ≡ 0
  pub ids_past_n : look_up_probes editions (fives 0 1 (sparse_block_lem 0 (7 ∷ []) ++ end_block) ((1, 0) ∷ [])) 7 ≡ 0
  -- by the list: its own block's places alone
  pub listed_first : probes (1 ∷ 4 ∷ 7 ∷ 65537 ∷ []) 1 ≡ 2
  pub listed_next : probes (1 ∷ 4 ∷ 7 ∷ 65537 ∷ []) 65536 ≡ 1
  pub listed_none : probes (1 ∷ 4 ∷ 7 ∷ 65537 ∷ []) 131072 ≡ 0

pub probe_cases : ProbeCases
unfolding computing block_head sparse_block_lem made fives second_by dense_by spaced only
probe_cases = search
