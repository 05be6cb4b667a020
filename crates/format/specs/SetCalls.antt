-- Document 02, [14], the check and membership: the first fault in byte order decides. Each number is read, then at once held to its
-- limits; a list's or a bitmap's own fault comes before the next block's number. Assumes nothing.
use Rattle.std.specs.Prelude.{◌+◌, ◌*◌, ◌&&◌, ◌∷◌}
use Rattle.format.specs.Kit.{ℕ, zero, suc, Bool, cond, List, [], length, take, drop, leb, ltb, eqb}
use Rattle.format.specs.Limits.{max_id, block_places, max_block, max_blocks, max_listed, max_kind, bitmap_longs, bitmap_bytes}
use Rattle.format.specs.Refusals.{Outcome, done, and_then, need, DAMAGED, ID}
use Rattle.format.specs.Bytes.{from_low}
use Rattle.format.specs.HeaderNumbers.{number_at}
use Rattle.format.specs.Ids.{Run, count_below}
use Rattle.format.specs.IdsRead.{shorts, set_bits, ids_of}
use Rattle.format.specs.Pairs.{asc_from}
use Rattle.format.specs.LookUp.{Look, found, absent, ones_from}
use Rattle.format.specs.Walk.{Seen, seen, unseen, listed}
use Rattle.format.specs.SetBytes.{set_kind, missing}

-- ---- one block's data, by its kind t and its list length c

-- the kind's lengths: 1 to 4096, 0 to 4095, 0
unfoldable pub list_length_ok : ℕ → ℕ → Bool
list_length_ok zero c = leb 1 c && leb c max_listed
list_length_ok (suc zero) c = ltb c max_listed
list_length_ok (suc (suc t)) c = eqb c 0

-- the bytes of the data
unfoldable pub set_data_bytes : ℕ → ℕ → ℕ
set_data_bytes zero c = 2 * c
set_data_bytes (suc zero) c = 2 * c
set_data_bytes (suc (suc t)) c = bitmap_bytes

-- a list ascends; a bitmap's count is no other kind's
unfoldable pub set_data_fits : ℕ → ℕ → List ℕ → ℕ → Bool
set_data_fits zero c bytes at = asc_from 0 (shorts c (drop at bytes))
set_data_fits (suc zero) c bytes at = asc_from 0 (shorts c (drop at bytes))
set_data_fits (suc (suc t)) c bytes at = eqb (set_kind (ones_from bytes at bitmap_longs 0)) 2

-- and the data are not cut off
unfoldable pub set_data_ok : ℕ → ℕ → List ℕ → ℕ → Bool
set_data_ok t c bytes at = leb (at + set_data_bytes t c) (length bytes) && set_data_fits t c bytes at

-- the places that the data hold
unfoldable pub set_places : ℕ → ℕ → List ℕ → List ℕ
set_places zero c s = shorts c s
set_places (suc zero) c s = missing block_places 0 (shorts c s)
set_places (suc (suc t)) c s = set_bits block_places 0 (from_low (take bitmap_bytes s))

-- ---- one block

-- a block's number, kind and list length, and where its data start
pub record SetHead : Type 0 where
  pub block : ℕ
  pub kind : ℕ
  pub long : ℕ
  pub start : ℕ

-- the place after the block
abbrev pub set_end : SetHead → ℕ
set_end h = h.start + set_data_bytes h.kind h.long

-- A block at a place, numbered `next` or above: number, kind and list length are read in turn, each at once held to its limits, and then
-- the data are tested. From the last step to the first:
unfoldable pub data_from : ℕ → ℕ → ℕ → List ℕ → ℕ → Outcome SetHead
data_from block kind long bytes at =
    need (set_data_ok kind long bytes at) DAMAGED 0 (done (record { block = block; kind = kind; long = long; start = at }))

unfoldable pub length_from : ℕ → ℕ → List ℕ → ℕ → Outcome SetHead
length_from block kind bytes at =
    and_then (number_at bytes at) (λ c. need (list_length_ok kind c.0) DAMAGED 0 (data_from block kind c.0 bytes c.1))

unfoldable pub kind_from : ℕ → List ℕ → ℕ → Outcome SetHead
kind_from block bytes at =
    and_then (number_at bytes at) (λ t. need (leb t.0 max_kind) DAMAGED 0 (length_from block t.0 bytes t.1))

unfoldable pub block_from : ℕ → List ℕ → ℕ → Outcome SetHead
block_from next bytes at =
    and_then (number_at bytes at) (λ k. need (leb next k.0 && leb k.0 max_block) DAMAGED 0 (kind_from k.0 bytes k.1))

unfoldable pub set_run : List ℕ → SetHead → Run
set_run bytes h = record { block = h.block; places = set_places h.kind h.long (drop h.start bytes) }

-- ---- the whole

-- m blocks from a place on, and no byte after them
unfoldable pub blocks_from : ℕ → ℕ → List ℕ → ℕ → Outcome (List Run)
blocks_from zero next bytes at = need (eqb at (length bytes)) DAMAGED 0 (done [])
blocks_from (suc m) next bytes at =
    and_then (block_from next bytes at) (λ h.
    and_then (blocks_from m (suc h.block) bytes (set_end h)) (λ gs. done (set_run bytes h ∷ gs)))

-- the list whose bytes they are
unfoldable pub set_ids : List ℕ → Outcome (List ℕ)
set_ids bytes =
    and_then (number_at bytes 0) (λ m.
    need (leb m.0 max_blocks) DAMAGED 0
    (and_then (blocks_from m.0 0 bytes m.1) (λ gs. done (ids_of gs))))

-- the check: 7 and 8 with [4]'s numbers, and 13; success hands back the number of ids
unfoldable pub set_check : List ℕ → Outcome ℕ
set_check bytes = and_then (set_ids bytes) (λ ids. done (length ids))

-- ---- membership with ordinal

pub data Member : Type 0 where
  member_at : ℕ → Member
  no_member : Member

-- a list's own answer: found exactly if listed; the ordinal is the number of listed ids below
unfoldable pub member_in : List ℕ → ℕ → Member
member_in ids id = cond (listed id ids) (member_at (count_below id ids)) no_member

-- 14, then as the check
unfoldable pub set_find : List ℕ → ℕ → Outcome Member
set_find bytes id = need (leb id max_id) ID 0 (and_then (set_ids bytes) (λ ids. done (member_in ids id)))

-- a look-up's answer to the same question: the ordinal, without value and words
unfoldable pub as_member : Look → Member
as_member (found o v w) = member_at o
as_member (absent w) = no_member

-- and the walk's
unfoldable pub as_seen : Seen → Member
as_seen (seen o v) = member_at o
as_seen unseen = no_member
