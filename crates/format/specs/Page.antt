-- Document 02, [3]: a page of ids looked up in one call, into lent lists of ordinals, values and kinds of answer. Each place is what the
-- single look-up gives. Assumes nothing.
use Rattle.std.specs.Prelude.{◌+◌, ◌%◌, ◌^◌, ◌&&◌, ◌∷◌, ◌++◌}
use Rattle.format.specs.Kit.{ℕ, List, [], map, length, drop, leb, ℤ, pos}
use Rattle.format.specs.Refusals.{Outcome, done, refused, need, BUFFER}
use Rattle.format.specs.Editions.{Edition}
use Rattle.format.specs.LookUp.{Look, found, absent, look_up}

-- ---- one place, by the single look-up's answer

-- 0 found, 1 absent, else the refusal number; no number goes with it
unfoldable pub place_kind : Outcome Look → ℕ
place_kind (done (found o v w)) = 0
place_kind (done (absent w)) = 1
place_kind (refused why w) = why

-- absent and refused places hold ordinal 0 and value 0
unfoldable pub place_ordinal : Outcome Look → ℕ
place_ordinal (done (found o v w)) = o
place_ordinal (done (absent w)) = 0
place_ordinal (refused why w) = 0

unfoldable pub place_value : Outcome Look → ℤ
place_value (done (found o v w)) = v
place_value (done (absent w)) = pos 0
place_value (refused why w) = pos 0

-- a refusal counts no words
unfoldable pub place_words : Outcome Look → ℕ
place_words (done (found o v w)) = w
place_words (done (absent w)) = w
place_words (refused why w) = 0

-- ---- the page

-- into lists of so many ordinals, values and kinds: where one is shorter than the ids, 12 with the needed count
unfoldable pub page : List Edition → List ℕ → List ℕ → ℕ → ℕ → ℕ → Outcome (List (Outcome Look))
page known bytes ids ordinalRoom valueRoom kindRoom =
    let n : ℕ = length ids in
    need (leb n ordinalRoom && leb n valueRoom && leb n kindRoom) BUFFER n (done (map (look_up known bytes) ids))

unfoldable pub page_words : List (Outcome Look) → ℕ
page_words [] = 0
page_words (x ∷ xs) = place_words x + page_words xs

-- ---- the page's reply and its lists afterwards

-- success hands back the sum of words modulo 2^64
unfoldable pub page_reply : Outcome (List (Outcome Look)) → Outcome ℕ
page_reply (done xs) = done (page_words xs % 2 ^ 64)
page_reply (refused why w) = refused why w

-- a list afterwards, by what its places hold: success changes exactly as many places as there are ids, and a refusal none
unfoldable pub page_after : {A : Type 0} → (Outcome Look → A) → Outcome (List (Outcome Look)) → List A → List A
page_after f (done xs) l = map f xs ++ drop (length xs) l
page_after f (refused why w) l = l
