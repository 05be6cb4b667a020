-- The paper's numbers and values for each case of the library's enums. Assumes nothing.
use Rattle.std.specs.Prelude.{◌≡◌, Some, None, Ok, Err}
use Rattle.std.specs.declared.option.Option as Op
use Rattle.std.specs.declared.result.Result.{Result}
use Rattle.format.specs.Kit.{ℕ, Bool, true, false, Option, none, some, ℤ}
use Rattle.format.specs.Codec.{Fields}
use Rattle.format.specs.Refusals.{Outcome, done, refused, LENGTHS, POWER, ORDER, RANGE, ROOM}
use Rattle.format.specs.Refusals.{SHORT, NUMBER, EDITION, HEADER, LENGTH, BUFFER, DAMAGED, ID, BROKEN, BACK, PLAN}
use Rattle.format.specs.LookUp.{Look, found, absent}
use Rattle.format.specs.Next.{Candidate, candidate_at, no_candidate}
use Rattle.format.specs.SetCalls as Sc
use Rattle.format.specs.Orders.{Order, low_byte, high_byte}
use Rattle.format.specs.Judge.{cut_off, block_order, place_order, ones_unlike, rank_wrong, end_wrong, jump_wrong, left_over, Verdict, accepted, faulty}
use Rattle.answers.specs.declared.Refusal as Re
use Rattle.answers.specs.declared.Look as Lk
use Rattle.answers.specs.declared.Pair as Pa
use Rattle.answers.specs.declared.Readout as Ro
use Rattle.answers.specs.declared.ByteOrder as By
use Rattle.answers.specs.declared.Reason as Rs
use Rattle.answers.specs.declared.Rejection as Rj
use Rattle.answers.specs.declared.Fields as Fi

-- a refusal's number, and the number with it; 5 is not used: it was OFFSET, which cannot happen (document 02, [7])
abbrev pub refusal_number : Re.Refusal → ℕ
refusal_number Re.Refusal.Lengths = LENGTHS
refusal_number Re.Refusal.Power = POWER
refusal_number (Re.Refusal.Order i) = ORDER
refusal_number (Re.Refusal.Range i) = RANGE
refusal_number (Re.Refusal.Room n) = ROOM
refusal_number (Re.Refusal.Short n) = SHORT
refusal_number (Re.Refusal.Number at) = NUMBER
refusal_number Re.Refusal.Edition = EDITION
refusal_number Re.Refusal.Header = HEADER
refusal_number Re.Refusal.Length = LENGTH
refusal_number (Re.Refusal.Buffer n) = BUFFER
refusal_number Re.Refusal.Damaged = DAMAGED
refusal_number Re.Refusal.Id = ID
refusal_number Re.Refusal.Broken = BROKEN
refusal_number Re.Refusal.Back = BACK
refusal_number Re.Refusal.Plan = PLAN

abbrev pub refusal_with : Re.Refusal → ℕ
refusal_with Re.Refusal.Lengths = 0
refusal_with Re.Refusal.Power = 0
refusal_with (Re.Refusal.Order i) = i
refusal_with (Re.Refusal.Range i) = i
refusal_with (Re.Refusal.Room n) = n
refusal_with (Re.Refusal.Short n) = n
refusal_with (Re.Refusal.Number at) = at
refusal_with Re.Refusal.Edition = 0
refusal_with Re.Refusal.Header = 0
refusal_with Re.Refusal.Length = 0
refusal_with (Re.Refusal.Buffer n) = n
refusal_with Re.Refusal.Damaged = 0
refusal_with Re.Refusal.Id = 0
refusal_with Re.Refusal.Broken = 0
refusal_with Re.Refusal.Back = 0
refusal_with Re.Refusal.Plan = 0

abbrev pub refused_as : {A : Type 0} → Re.Refusal → Outcome A
refused_as why = refused (refusal_number why) (refusal_with why)

-- the writer's reply: the column's bytes; the check's and the reading's: n
abbrev pub reply_of : Result ℕ Re.Refusal → Outcome ℕ
reply_of (Ok n) = done n
reply_of (Err why) = refused_as why

abbrev pub look_of : Lk.Look → Look
look_of (Lk.Look.Found o v w n) = found o v w
look_of (Lk.Look.Absent w n) = absent w

abbrev pub answer_of : Result Lk.Look Re.Refusal → Outcome Look
answer_of (Ok look) = done (look_of look)
answer_of (Err why) = refused_as why

abbrev pub probes_of : Lk.Look → ℕ
probes_of (Lk.Look.Found o v w k) = k
probes_of (Lk.Look.Absent w k) = k

-- an answer with so many probes; a refusal has none to tell
abbrev pub Probed : ℕ → Result Lk.Look Re.Refusal → Type 0
Probed n (Ok look) = probes_of look ≡ n
Probed n (Err why) = Unit

abbrev pub pair_of : Op.Option Pa.Pair → Candidate
pair_of (Some p) = candidate_at p.id p.ordinal p.value
pair_of None = no_candidate

abbrev pub candidate_of : Result (Op.Option Pa.Pair) Re.Refusal → Outcome Candidate
candidate_of (Ok pair) = done (pair_of pair)
candidate_of (Err why) = refused_as why

-- how many pairs, and whether no listed id is left
abbrev pub readout_of : Result Ro.Readout Re.Refusal → Outcome (ℕ × Bool)
readout_of (Ok (Ro.Readout.More n)) = done (n, false)
readout_of (Ok (Ro.Readout.Ended n)) = done (n, true)
readout_of (Err why) = refused_as why

abbrev pub member_of : Result (Op.Option ℕ) Re.Refusal → Outcome Sc.Member
member_of (Ok (Some o)) = done (Sc.member_at o)
member_of (Ok None) = done Sc.no_member
member_of (Err why) = refused_as why

-- document 02, [9]
abbrev pub order_of : By.ByteOrder → Order
order_of By.ByteOrder.LowFirst = low_byte
order_of By.ByteOrder.HighFirst = high_byte

abbrev pub reason_number : Rs.Reason → ℕ
reason_number Rs.Reason.CutOff = cut_off
reason_number Rs.Reason.BlockOrder = block_order
reason_number Rs.Reason.PlaceOrder = place_order
reason_number Rs.Reason.OnesUnlike = ones_unlike
reason_number Rs.Reason.RankWrong = rank_wrong
reason_number Rs.Reason.EndWrong = end_wrong
reason_number Rs.Reason.JumpWrong = jump_wrong
reason_number Rs.Reason.LeftOver = left_over

-- a reason is no refusal; HEADER is the one
abbrev pub judgement_of : Result ℕ Rj.Rejection → Outcome Verdict
judgement_of (Ok n) = done (accepted n)
judgement_of (Err (Rj.Rejection.Faulty why at)) = done (faulty (reason_number why) at)
judgement_of (Err Rj.Rejection.Header) = refused HEADER 0

abbrev pub between_of : Result (Op.Option ℕ) Re.Refusal → Outcome (Option ℕ)
between_of (Ok (Some i)) = done (some i)
between_of (Ok None) = done none
between_of (Err why) = refused_as why

-- ---- on the way

-- the header's numbers 6 to 8
abbrev pub fields_of : Fi.Fields → Fields
fields_of f = record { width = f.width; smallest = f.smallest; divisor = f.divisor }

-- step 7's value, or none
abbrev pub fetched_of : Op.Option ℤ → Option ℤ
fetched_of (Some v) = some v
fetched_of None = none
