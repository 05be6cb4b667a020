-- The ids of a page that are absent in the correction: kind 1. Assumes nothing.
use Rattle.std.specs.Prelude.{◌+◌, ◌||◌, ◌∷◌}
use Rattle.format.specs.Kit.{ℕ, suc, Bool, false, cond, List, [], eqb, leb, set}
use Rattle.format.specs.Refusals.{Outcome}
use Rattle.format.specs.LookUp.{Look}
use Rattle.format.specs.Page.{place_words}

-- the column that answers such an id: 0 the machine column, 1 the correction
unfoldable pub column_by : ℕ → ℕ
column_by kind = cond (eqb kind 1) 0 1

unfoldable pub some_absent : List ℕ → Bool
some_absent [] = false
some_absent (k ∷ ks) = eqb k 1 || some_absent ks

-- the ids whose kind is 1,
unfoldable pub absent_ids : List ℕ → List ℕ → List ℕ
absent_ids [] ids = []
absent_ids (k ∷ ks) [] = []
absent_ids (k ∷ ks) (id ∷ ids) = let more : List ℕ = absent_ids ks ids in cond (eqb k 1) (id ∷ more) more

-- and their places, where the first has the number i
unfoldable pub absent_places : ℕ → List ℕ → List ℕ
absent_places i [] = []
absent_places i (k ∷ ks) = let more : List ℕ = absent_places (suc i) ks in cond (eqb k 1) (i ∷ more) more

-- a list with xs in these places, in turn
unfoldable pub put_all : {A : Type 0} → List A → List ℕ → List A → List A
put_all l [] xs = l
put_all l (p ∷ ps) [] = l
put_all l (p ∷ ps) (x ∷ xs) = put_all (set l p x) ps xs

-- the words that `look` counts for ids whose kind below is a refusal's number
unfoldable pub lost_words : (ℕ → Outcome Look) → List ℕ → List ℕ → ℕ
lost_words look [] ids = 0
lost_words look (k ∷ ks) [] = 0
lost_words look (k ∷ ks) (id ∷ ids) = cond (leb k 1) 0 (place_words (look id)) + lost_words look ks ids
