-- A page of ids looked up in one call in a machine column with a correction on top, into lent lists of ordinals, values, kinds of answer and
-- columns. Each place is what the single layered look-up gives. (Not in document 02: docs/DECISIONS.md.) Assumes nothing.
use Rattle.std.specs.Prelude.{◌+◌, ◌%◌, ◌^◌, ◌&&◌, ◌∷◌, ◌++◌}
use Rattle.format.specs.Kit.{ℕ, cond, List, [], map, length, drop, leb, ℤ, pos}
use Rattle.format.specs.Limits.{max_id}
use Rattle.format.specs.Refusals.{Outcome, done, refused, need, BUFFER, ID}
use Rattle.format.specs.Editions.{Edition}
use Rattle.format.specs.Pairs.{Pairs}
use Rattle.format.specs.Opening.{Opened}
use Rattle.format.specs.Walk.{listed, words}
use Rattle.format.specs.Layered.{correction, layer_number, LayeredLook, found_in, absent_in, refused_by, look_up_layered, look_up_layered_in, lists_answer}

-- ---- one place, by the single layered look-up's answer

-- 0 found, 1 absent, else the refusal number; no number goes with it
unfoldable pub layered_kind : LayeredLook → ℕ
layered_kind (found_in layer o v w k) = 0
layered_kind (absent_in w k) = 1
layered_kind (refused_by layer why x) = why

-- absent and refused places hold ordinal 0 and value 0
unfoldable pub layered_ordinal : LayeredLook → ℕ
layered_ordinal (found_in layer o v w k) = o
layered_ordinal (absent_in w k) = 0
layered_ordinal (refused_by layer why x) = 0

unfoldable pub layered_value : LayeredLook → ℤ
layered_value (found_in layer o v w k) = v
layered_value (absent_in w k) = pos 0
layered_value (refused_by layer why x) = pos 0

-- found and refused name their column (document 02, [10]); an absent place holds 0
unfoldable pub layered_column : LayeredLook → ℕ
layered_column (found_in layer o v w k) = layer_number layer
layered_column (absent_in w k) = 0
layered_column (refused_by layer why x) = layer_number layer

-- the words of each column apart; a refusal counts none
unfoldable pub machine_words : LayeredLook → ℕ
machine_words (found_in layer o v w k) = w
machine_words (absent_in w k) = w
machine_words (refused_by layer why x) = 0

unfoldable pub correction_words : LayeredLook → ℕ
correction_words (found_in layer o v w k) = k
correction_words (absent_in w k) = k
correction_words (refused_by layer why x) = 0

-- ---- the page

-- answers into lists of so many ordinals, values, kinds and columns: where one is shorter than the ids, 12 with the needed count
unfoldable pub page_by : (ℕ → LayeredLook) → List ℕ → ℕ → ℕ → ℕ → ℕ → Outcome (List LayeredLook)
page_by look ids ordinalRoom valueRoom kindRoom columnRoom =
    let n : ℕ = length ids in
    need (leb n ordinalRoom && leb n valueRoom && leb n kindRoom && leb n columnRoom) BUFFER n (done (map look ids))

unfoldable pub layered_page : List Edition → List ℕ → List ℕ → List ℕ → ℕ → ℕ → ℕ → ℕ → Outcome (List LayeredLook)
layered_page known m c ids = page_by (look_up_layered known m c) ids

-- from two columns that were opened before, or any numbers in their place
unfoldable pub layered_page_in : List ℕ → Opened → List ℕ → Opened → List ℕ → ℕ → ℕ → ℕ → ℕ → Outcome (List LayeredLook)
layered_page_in m x c y ids = page_by (look_up_layered_in m x c y) ids

-- a sum over a list
unfoldable pub sum_of : {A : Type 0} → (A → ℕ) → List A → ℕ
sum_of f [] = 0
sum_of f (x ∷ xs) = f x + sum_of f xs

-- ---- the page's reply and its lists afterwards

-- success hands back the sums of words, the machine column's first, each modulo 2^64
unfoldable pub layered_reply : Outcome (List LayeredLook) → Outcome (ℕ × ℕ)
layered_reply (done xs) = done (sum_of machine_words xs % 2 ^ 64, sum_of correction_words xs % 2 ^ 64)
layered_reply (refused why w) = refused why w

-- a list afterwards, by what its places hold: success changes exactly as many places as there are ids, and a refusal none
unfoldable pub layered_after : {A : Type 0} → (LayeredLook → A) → Outcome (List LayeredLook) → List A → List A
layered_after f (done xs) l = map f xs ++ drop (length xs) l
layered_after f (refused why w) l = l

-- ---- on two accepted columns: the two lists' own page

-- 14, by the correction; else the two lists' answer
unfoldable pub lists_place : ℕ → Pairs → ℕ → Pairs → ℕ → LayeredLook
lists_place p m k c id = cond (leb id max_id) (lists_answer p m k c id) (refused_by correction ID 0)

unfoldable pub lists_page : ℕ → Pairs → ℕ → Pairs → List ℕ → ℕ → ℕ → ℕ → ℕ → Outcome (List LayeredLook)
lists_page p m k c ids = page_by (lists_place p m k c) ids

-- The words for an id in each column: none above the greatest id; the machine column is not looked in where the correction lists the id.
unfoldable pub machine_formula : ℕ → Pairs → Pairs → ℕ → ℕ
machine_formula p m c id = cond (leb id max_id) (cond (listed id c.ids) 0 (words p m.ids id)) 0

unfoldable pub correction_formula : ℕ → Pairs → ℕ → ℕ
correction_formula k c id = cond (leb id max_id) (words k c.ids id) 0
