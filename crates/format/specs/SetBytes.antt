-- Document 02, [14], "The in-memory set's sibling on disk" (source 003): the bytes of an id list, and the writer. Block numbers, places
-- and the bits of a bitmap are those of document 01. Assumes nothing.
use Rattle.std.specs.Prelude.{◌-◌, ◌∷◌, ◌++◌}
use Rattle.format.specs.Kit.{ℕ, zero, suc, Bool, false, cond, List, [], length, leb, ltb, eqb}
use Rattle.format.specs.Limits.{block_places, bitmap_bytes, max_listed}
use Rattle.format.specs.Refusals.{Outcome, done, need, need_none, ORDER, RANGE, ROOM}
use Rattle.format.specs.Bytes.{low, bytes_of}
use Rattle.format.specs.HeaderNumbers.{number}
use Rattle.format.specs.Ids.{Run, runs, bitmap}
use Rattle.format.specs.Writer.{order_fault, range_fault}

-- ---- one block

-- The kind of a block of c ids: 0, listed, up to 4096 ids; otherwise 1, the missing ones listed, with fewer than 4096 missing; else 2, a
-- bitmap. (003's remark that 61440 ids count as dense gives way: 4096 are missing then.)
unfoldable pub set_kind : ℕ → ℕ
set_kind c = cond (leb c max_listed) 0 (cond (ltb (block_places - c) max_listed) 1 2)

-- does a list begin with x, and what is left of it after that x
unfoldable pub begins : ℕ → List ℕ → Bool
begins x [] = false
begins x (r ∷ rs) = eqb r x

unfoldable pub past : ℕ → List ℕ → List ℕ
past x [] = []
past x (r ∷ rs) = cond (eqb r x) rs (r ∷ rs)

-- those of the k places from x on that do not stand among the ascending rs
unfoldable pub missing : ℕ → ℕ → List ℕ → List ℕ
missing zero x rs = []
missing (suc k) x rs =
    let more : List ℕ = missing k (suc x) (past x rs) in
    cond (begins x rs) more (x ∷ more)

-- the list that a block of these places has, by its kind: the places, the missing ones, none
unfoldable pub set_list : ℕ → List ℕ → List ℕ
set_list zero rs = rs
set_list (suc zero) rs = missing block_places 0 rs
set_list (suc (suc t)) rs = []

-- what follows a block's three numbers: the list as low-first shorts, or 1024 longs as in document 01
unfoldable pub set_data : ℕ → List ℕ → List ℕ
set_data zero rs = bytes_of (low 2) rs
set_data (suc zero) rs = bytes_of (low 2) (missing block_places 0 rs)
set_data (suc (suc t)) rs = low bitmap_bytes (bitmap rs)

-- number, kind and list length as seven-bit numbers, then the data
unfoldable pub set_block_as : ℕ → Run → List ℕ
set_block_as t g = number g.block ++ (number t ++ (number (length (set_list t g.places)) ++ set_data t g.places))

unfoldable pub set_block : Run → List ℕ
set_block g = set_block_as (set_kind (length g.places)) g

-- ---- the whole: the number of blocks, then each block with an id

unfoldable pub set_bytes : List ℕ → List ℕ
set_bytes ids =
    let gs : List Run = runs ids in
    number (length gs) ++ bytes_of set_block gs

-- ---- the writer: refusals 3, 4 and 6, each over the whole input before the next (`write_reply` and `write_out` say what is left of it)

unfoldable pub set_write : List ℕ → ℕ → Outcome (List ℕ)
set_write ids room =
    let out : List ℕ = set_bytes ids in
    need_none (order_fault ids) ORDER
    (need_none (range_fault 0 ids) RANGE
    (need (leb (length out) room) ROOM (length out)
    (done out)))
