-- Document 02, [9]: the judge of a bare id section. The tests stand in the paper's order, block by block; a fault has a reason and a place.
-- Assumes nothing.
use Rattle.std.specs.Prelude.{◌+◌, ◌-◌, ◌*◌, ◌/◌, ◌^◌, ◌&&◌, ◌||◌, ◌∷◌, ◌++◌}
use Rattle.format.specs.Kit.{ℕ, zero, suc, Bool, true, cond, not, List, [], Option, none, some}
use Rattle.format.specs.Kit.{length, take, drop, replicate, leb, eqb}
use Rattle.format.specs.Limits.{max_block, bitmap_longs, end_number, power_ok, max_jumps}
use Rattle.format.specs.Refusals.{Outcome, done, refused, and_then, need, HEADER}
use Rattle.format.specs.Bytes.{same, high_at}
use Rattle.format.specs.Ids.{Entry, by_kind, kind_of, rank_bytes, block_bytes, not_two}
use Rattle.format.specs.Pairs.{asc_from}
use Rattle.format.specs.LookUp.{ones_from}
use Rattle.format.specs.Orders.{Order, fixed_at, numbers_in, end_in, entry_in}

-- ---- the reasons

abbrev pub cut_off : ℕ
cut_off = 1

abbrev pub block_order : ℕ
block_order = 2

abbrev pub place_order : ℕ
place_order = 3

abbrev pub ones_unlike : ℕ
ones_unlike = 4

abbrev pub rank_wrong : ℕ
rank_wrong = 5

abbrev pub end_wrong : ℕ
end_wrong = 6

abbrev pub jump_wrong : ℕ
jump_wrong = 7

abbrev pub left_over : ℕ
left_over = 8

-- ---- one block of c ids, whose data start at t

-- n rank entries from entry j on, each the ones in the longs before its stride; the table is at t, the longs are at m
unfoldable pub ranks_from : ℕ → ℕ → List ℕ → ℕ → ℕ → ℕ → Bool
ranks_from zero p s t m j = true
ranks_from (suc n) p s t m j =
    eqb (high_at 2 s (t + 2 * j)) (ones_from s m (j * 2 ^ (p - 6)) 0) && ranks_from n p s t m (suc j)

-- a sparse block's places ascend
unfoldable pub places_ok : Order → List ℕ → ℕ → ℕ → Bool
places_ok o s t c = by_kind (kind_of c) (asc_from 0 (numbers_in o 2 c (drop t s))) true true

-- a dense block's ones are as many as its ids; a long has the same ones in either byte order (`ones-either`)
unfoldable pub ones_ok : ℕ → List ℕ → ℕ → ℕ → Bool
ones_ok p s t c = by_kind (kind_of c) true (eqb (ones_from s (t + rank_bytes p) bitmap_longs 0) c) true

-- and so are its ranks
unfoldable pub ranks_ok : ℕ → List ℕ → ℕ → ℕ → Bool
ranks_ok p s t c = by_kind (kind_of c) true (ranks_from (rank_bytes p / 2) p s t (t + rank_bytes p) 0) true

-- ---- the blocks

-- a test, and the reason that it gives where it fails
abbrev pub Test : Type 0
Test = Bool × ℕ

unfoldable pub first_failed : List Test → Option ℕ
first_failed [] = none
first_failed (t ∷ ts) = cond t.0 (first_failed ts) (some t.1)

-- The tests of the block at a place, after blocks of numbers below `next`. A block numbered 32767 is the end block, six bytes; it has a
-- test of its own and none of the others but the first.
unfoldable pub tests_at : Order → ℕ → List ℕ → ℕ → ℕ → List Test
tests_at o p s at next =
    let k : ℕ = fixed_at o 2 s at in
    let c : ℕ = suc (fixed_at o 2 s (at + 2)) in
    let end : Bool = eqb k end_number in
    (leb (at + 4) (length s) && leb (at + cond end 6 (block_bytes p c)) (length s), cut_off)
    ∷ (end || (leb next k && leb k max_block), block_order)
    ∷ (end || places_ok o s (at + 4) c, place_order)
    ∷ (end || ones_ok p s (at + 4) c, ones_unlike)
    ∷ (end || ranks_ok p s (at + 4) c, rank_wrong)
    ∷ (not end || same (take 6 (drop at s)) (end_in o), end_wrong)
    ∷ []

-- a reason is told with its place; without one it goes on
unfoldable pub unless_fault : {A : Type 0} → Option ℕ → ℕ → Outcome A → Outcome A
unless_fault none at next = next
unless_fault (some why) at next = refused why at

-- where the end block stands, the ids before it, and the number after the last block
pub record Ended : Type 0 where
  pub start : ℕ
  pub count : ℕ
  pub next : ℕ

-- at most f blocks, the first at a place, with n ids before it, and of a number that is `next` or above
unfoldable pub judge_from : ℕ → Order → ℕ → List ℕ → ℕ → ℕ → ℕ → Outcome Ended
judge_from zero o p s at n next = refused cut_off at
judge_from (suc f) o p s at n next =
    let k : ℕ = fixed_at o 2 s at in
    let c : ℕ = suc (fixed_at o 2 s (at + 2)) in
    let more : Outcome Ended = judge_from f o p s (at + block_bytes p c) (n + c) (suc k) in
    let passed : Outcome Ended = cond (eqb k end_number) (done (record { start = at; count = n; next = next })) more in
    unless_fault (first_failed (tests_at o p s at next)) at passed

-- ---- the jump entries

-- the entries of at most f blocks from a place on, as `jumps_from` has them of runs: each block up to one that stands there has its entry
unfoldable pub jumps_at : ℕ → Order → ℕ → List ℕ → ℕ → ℕ → ℕ → List Entry
jumps_at zero o p s next n at = []
jumps_at (suc f) o p s next n at =
    let k : ℕ = fixed_at o 2 s at in
    let c : ℕ = suc (fixed_at o 2 s (at + 2)) in
    let more : List Entry = replicate (suc k - next) (n, at) ++ jumps_at f o p s (suc k) (n + c) (at + block_bytes p c) in
    cond (eqb k end_number) ((n, at) ∷ []) more

unfoldable pub jumps_in : Order → ℕ → List ℕ → List Entry
jumps_in o p s = jumps_at (suc (length s)) o p s 0 0 0

-- entries that stand at a place, one after the other: the place after them, or that of the first wrong or cut one
unfoldable pub judge_entries : Order → List Entry → List ℕ → ℕ → Outcome ℕ
judge_entries o [] s at = done at
judge_entries o (e ∷ es) s at =
    need (same (take 8 (drop at s)) (entry_in o e)) jump_wrong at (judge_entries o es s (at + 8))

-- what follows the end block: j entries, the blocks' own, and nothing more
unfoldable pub judge_rest : Order → List Entry → ℕ → List ℕ → Ended → Outcome ℕ
judge_rest o es j s e =
    need (eqb j (length es)) jump_wrong (e.start + 6)
    (and_then (judge_entries o es s (e.start + 6)) (λ at.
    need (eqb at (length s)) left_over at
    (done e.count)))

-- ---- the section

-- inside, a reason stands where other calls have a refusal: the first one decides
unfoldable pub judge : Order → ℕ → ℕ → List ℕ → Outcome ℕ
judge o p j s = and_then (judge_from (suc (length s)) o p s 0 0 0) (λ e. judge_rest o (not_two (jumps_in o p s)) j s e)

-- what the judge finds: "accepted with the id count", or one reason and its place, which is no refusal
pub data Verdict : Type 0 where
  accepted : ℕ → Verdict
  faulty : ℕ → ℕ → Verdict

abbrev pub as_verdict : Outcome ℕ → Verdict
as_verdict (done n) = accepted n
as_verdict (refused why at) = faulty why at

-- document 01's limits
abbrev pub limits_ok : ℕ → ℕ → Bool
limits_ok p j = power_ok p && leb j max_jumps

-- "An entry count or power outside 01's limits is HEADER", the one refusal
unfoldable pub judge_section : Order → ℕ → ℕ → List ℕ → Outcome Verdict
judge_section o p j s = need (limits_ok p j) HEADER 0 (done (as_verdict (judge o p j s)))
