-- Document 01, "The walk over all blocks, and the words": what demand 3 holds the look-up against. Assumes nothing.
use Rattle.std.specs.Prelude.{◌+◌, ◌-◌, ◌/◌, ◌%◌, ◌^◌, ◌≤◌, ◌||◌, ◌∷◌}
use Rattle.format.specs.Kit.{ℕ, zero, suc, Bool, false, cond, List, [], Option, none, some, length}
use Rattle.format.specs.Kit.{get_or, drop, eqb, ℤ, pos}
use Rattle.format.specs.Limits.{block_places, bitmap_longs, end_number}
use Rattle.format.specs.Refusals.{Outcome, done, refused}
use Rattle.format.specs.Bytes.{low_at}
use Rattle.format.specs.Ids.{kind_of, by_kind, block_bytes, count_below}
use Rattle.format.specs.IdsRead.{places_in}
use Rattle.format.specs.Opening.{Opened, id_part, value_of}
use Rattle.format.specs.LookUp.{Look, found, absent, halving}

-- ---- the walk: it uses no jump entry and no rank, and counts no words

pub data Seen : Type 0 where
  seen : ℕ → Option ℤ → Seen
  unseen : Seen

-- the index of r in a list, i and on
unfoldable pub index_of : ℕ → ℕ → List ℕ → Option ℕ
index_of r i [] = none
index_of r i (x ∷ xs) = cond (eqb x r) (some i) (index_of r (suc i) xs)

-- found at an inner place, or else what the next steps give
unfoldable pub seen_or : List ℕ → Opened → ℕ → Option ℕ → Seen → Seen
seen_or bytes col o (some i) next = seen (o + i) (value_of bytes col (o + i))
seen_or bytes col o none next = next

-- at most f steps, from start s and ordinal o
unfoldable pub walk_from : ℕ → List ℕ → Opened → ℕ → ℕ → ℕ → Seen
walk_from zero bytes col id s o = unseen
walk_from (suc f) bytes col id s o =
    let sec : List ℕ = id_part bytes col in
    let k : ℕ = low_at 2 sec s in
    let c : ℕ = low_at 2 sec (s + 2) + 1 in
    let p : ℕ = col.head.power in
    let next : Seen =
    seen_or bytes col o
    (cond (eqb k (id / block_places)) (index_of (id % block_places) 0 (places_in p c (drop (s + 4) sec))) none)
    (walk_from f bytes col id (s + block_bytes p c) (o + c)) in
    cond (eqb k end_number) unseen next

unfoldable pub walk : List ℕ → Opened → ℕ → Seen
walk bytes col id = walk_from (suc col.head.id_bytes) bytes col id 0 0

-- a look-up's answer without its words
unfoldable pub wordless : Look → Seen
wordless (found o v w) = seen o (some v)
wordless (absent w) = unseen

-- ---- the words, for the list of accepted bytes

-- how many ids lie in block b
unfoldable pub in_block : ℕ → List ℕ → ℕ
in_block b [] = 0
in_block b (i ∷ is) = cond (eqb (i / block_places) b) 1 0 + in_block b is

unfoldable pub listed : ℕ → List ℕ → Bool
listed id [] = false
listed id (i ∷ is) = eqb i id || listed id is

unfoldable pub words : ℕ → List ℕ → ℕ → ℕ
words p ids id =
    by_kind (kind_of (in_block (id / block_places) ids)) 0
    (cond (listed id ids) (cond (eqb p 0) (id % block_places / 64 + 1) (id % block_places / 64 % 2 ^ (p - 6) + 1)) 1)
    0

-- the most words that a look-up counts: a stride's, or a block's without ranks
unfoldable pub stride_words : ℕ → ℕ
stride_words p = cond (eqb p 0) bitmap_longs (2 ^ (p - 6))

-- an answer at rank power p has a stride's words at most where the id is found, and one at most where it is absent
abbrev pub FewWords : ℕ → Outcome Look → Type 0
FewWords p (done (found o v w)) = w ≤ stride_words p
FewWords p (done (absent w)) = w ≤ 1
FewWords p (refused why x) = Unit

-- ---- the probes, for the list of accepted bytes (document 02, [8])

-- the places of the listed ids in block b
unfoldable pub listed_places : ℕ → List ℕ → List ℕ
listed_places b [] = []
listed_places b (i ∷ is) =
    let more : List ℕ = listed_places b is in
    cond (eqb (i / block_places) b) (i % block_places ∷ more) more

-- those of halving the block's places, 0 if it is no sparse block
unfoldable pub probes : List ℕ → ℕ → ℕ
probes ids id =
    let rs : List ℕ = listed_places (id / block_places) ids in
    by_kind (kind_of (length rs)) (halving (id % block_places) rs).probes 0 0

-- ---- the pair list's own answer

-- found exactly if listed; the ordinal is the number of listed ids below; the value is the one written with it
unfoldable pub list_answer : ℕ → List ℕ → List ℤ → ℕ → Look
list_answer p ids vs id =
    cond (listed id ids) (found (count_below id ids) (get_or vs (count_below id ids) (pos 0)) (words p ids id)) (absent (words p ids id))
