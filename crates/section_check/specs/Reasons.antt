-- The tests of a block and of the end block as reasons, 0 for none, and what the code's results stand for. Assumes nothing.
use Rattle.std.specs.Prelude.{◌≡◌, ◌+◌, ◌*◌, ◌≤◌, ◌<◌, ◌&&◌, ◌++◌, ⊤, Ok, Err}
use Rattle.format.specs.Kit.{ℕ, cond, List, length, take, drop, replicate, leb, ltb}
use Rattle.format.specs.Refusals.{Outcome, done, refused}
use Rattle.format.specs.Bytes.{same}
use Rattle.format.specs.Ids.{Entry, block_bytes}
use Rattle.format.specs.Limits.{max_block, block_places, dense_count, end_number}
use Rattle.format.specs.Orders.{Order, fixed_at, end_in}
use Rattle.format.specs.Judge.{places_ok, ones_ok, ranks_ok, cut_off, block_order, place_order, ones_unlike, rank_wrong, end_wrong, jump_wrong}
use Rattle.format.specs.Judge.{Ended, judge_from, judge_entries}
use Rattle.answers.specs.Replies.{reason_number}
use Rattle.answers.specs.declared.Reason.{Reason}
use Rattle.section_check.specs.declared.Stand.{Stand}
use Rattle.section_check.specs.declared.Fault.{Fault}
use Rattle.std.specs.declared.result.Result.{Result}

-- what a test of the code gives
abbrev pub reason_in : Result ⊤ Reason → ℕ
reason_in (Ok _) = 0
reason_in (Err why) = reason_number why

-- cut off and block order, and what is left where neither is told
abbrev pub head_then : ℕ → List ℕ → ℕ → ℕ → ℕ → ℕ → ℕ → ℕ
head_then p s at next k c more = cond (leb (at + block_bytes p c) (length s)) (cond (leb next k && leb k max_block) more block_order) cut_off

abbrev pub words_reason : ℕ → List ℕ → ℕ → ℕ → ℕ
words_reason p s t c = cond (ones_ok p s t c) (cond (ranks_ok p s t c) 0 rank_wrong) ones_unlike

unfoldable pub block_reason : Order → ℕ → List ℕ → ℕ → ℕ → ℕ → ℕ → ℕ
block_reason ord p s at next k c = head_then p s at next k c (cond (places_ok ord s (at + 4) c) (words_reason p s (at + 4) c) place_order)

unfoldable pub end_reason : Order → List ℕ → ℕ → ℕ
end_reason ord s at = cond (leb (at + 6) (length s)) (cond (same (take 6 (drop at s)) (end_in ord)) 0 end_wrong) cut_off

-- the whole judge is the judge from a place on, with a count of blocks that will do
pub record Turn (whole : Outcome Ended) (ord : Order) (p : ℕ) (s : List ℕ) (at o next : ℕ) : Type 0 where
  pub fuel : ℕ
  pub enough : length s < fuel + at
  pub same : whole ≡ judge_from fuel ord p s at o next

-- from a start on the judge went over sparse blocks, and stands before a block that is none of them
pub record Passed (ord : Order) (p : ℕ) (s : List ℕ) (start before least at count next : ℕ) : Type 0 where
  pub on : (whole : Outcome Ended) → Turn whole ord p s start before least → Turn whole ord p s at count next
  pub head : at + 4 ≤ length s
  pub other : (fixed_at ord 2 s at ≡ end_number → ⊥) → dense_count ≤ fixed_at ord 2 s (at + 2) + 1
  pub forth : start ≤ at
  pub few : count ≤ block_places * next
  pub most : next ≤ 32766

-- or it stopped at a fault
abbrev pub Walked : Order → ℕ → List ℕ → Stand → Result Stand Fault → Type 0
Walked ord p s from (Ok to) = Passed ord p s from.at from.count from.next to.at to.count to.next
Walked ord p s from (Err f) = (whole : Outcome Ended) → Turn whole ord p s from.at from.count from.next → refused (reason_number f.reason) f.at ≡ whole

-- the entries from a place on, of which the first n are one and the same, of which r are right before the first wrong one
unfoldable pub Repeats : Order → List ℕ → ℕ → ℕ → ℕ → ℕ → ℕ → Type 0
Repeats ord s from n o at r =
    (more : List Entry) → judge_entries ord (replicate n (o, at) ++ more) s from
    ≡ cond (ltb r n) (refused jump_wrong (from + 8 * r)) (judge_entries ord more s (from + 8 * n))

-- where the walk stands when it is over
abbrev pub stand_is : Stand → Ended
stand_is e = record { start = e.at; count = e.count; next = e.next }

abbrev pub walk_of : Result Stand Fault → Outcome Ended
walk_of (Ok e) = done (stand_is e)
walk_of (Err f) = refused (reason_number f.reason) f.at

-- a number of ids, or a place
abbrev pub verdict_of : Result ℕ Fault → Outcome ℕ
verdict_of (Ok n) = done n
verdict_of (Err f) = refused (reason_number f.reason) f.at
