-- Document 02, [7]: no refusal that the code can name has number 5, OFFSET's. That no call's definition gives 5 stands in crate laws (Retired.antt).
-- Assumes nothing.
use Rattle.format.specs.Kit.{◌≡◌, ℕ, arith}
use Rattle.answers.specs.Replies.{refusal_number}
use Rattle.answers.specs.declared.Refusal as Re

-- the type that the code answers: whatever keeps the contract of `Refusal::number` is not 5
pub number_never_5 : (why : Re.Refusal) (r : ℕ) → r ≡ refusal_number why → r ≡ 5 → ⊥
number_never_5 why r e f = go why (cc)
  where
    go : (why : Re.Refusal) → refusal_number why ≡ 5 → ⊥
    go Re.Refusal.Lengths e = omega arith
    go Re.Refusal.Power e = omega arith
    go (Re.Refusal.Order i) e = omega arith
    go (Re.Refusal.Range i) e = omega arith
    go (Re.Refusal.Room n) e = omega arith
    go (Re.Refusal.Short n) e = omega arith
    go (Re.Refusal.Number at) e = omega arith
    go Re.Refusal.Edition e = omega arith
    go Re.Refusal.Header e = omega arith
    go Re.Refusal.Length e = omega arith
    go (Re.Refusal.Buffer n) e = omega arith
    go Re.Refusal.Damaged e = omega arith
    go Re.Refusal.Id e = omega arith
    go Re.Refusal.Broken e = omega arith
    go Re.Refusal.Back e = omega arith
    go Re.Refusal.Plan e = omega arith
