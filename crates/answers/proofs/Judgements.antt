-- A judgement of an id section (document 02, [9]) is known by its numbers. Assumes nothing.
use Rattle.format.specs.Kit.{◌≡◌, refl, sym, ap, ◌∙◌, cond, ℕ, eqb}
use Rattle.format.specs.Refusals.{Outcome, done, refused}
use Rattle.format.specs.Judge.{Verdict, accepted, faulty}
use Rattle.answers.specs.Replies.{judgement_of}
use Rattle.std.specs.Prelude.{Ok, Err}
use Rattle.std.specs.declared.result.Result.{Result}
use Rattle.answers.specs.declared.Rejection.{Rejection}
use Rattle.answers.specs.declared.Reason.{Reason}

reason_of : ℕ → Reason
reason_of k =
    cond (eqb k 1) Reason.CutOff (cond (eqb k 2) Reason.BlockOrder (cond (eqb k 3) Reason.PlaceOrder (cond (eqb k 4) Reason.OnesUnlike
    (cond (eqb k 5) Reason.RankWrong (cond (eqb k 6) Reason.EndWrong (cond (eqb k 7) Reason.JumpWrong Reason.LeftOver))))))

judged : Outcome Verdict → Result ℕ Rejection
judged (done (accepted n)) = Ok n
judged (done (faulty k at)) = Err (Rejection.Faulty (reason_of k) at)
judged (refused why w) = Err Rejection.Header

judged_back : (r : Result ℕ Rejection) → judged (judgement_of r) ≡ r
unfolding judged reason_of
judged_back (Ok n) = refl
judged_back (Err Rejection.Header) = refl
judged_back (Err (Rejection.Faulty Reason.CutOff at)) = refl
judged_back (Err (Rejection.Faulty Reason.BlockOrder at)) = refl
judged_back (Err (Rejection.Faulty Reason.PlaceOrder at)) = refl
judged_back (Err (Rejection.Faulty Reason.OnesUnlike at)) = refl
judged_back (Err (Rejection.Faulty Reason.RankWrong at)) = refl
judged_back (Err (Rejection.Faulty Reason.EndWrong at)) = refl
judged_back (Err (Rejection.Faulty Reason.JumpWrong at)) = refl
judged_back (Err (Rejection.Faulty Reason.LeftOver at)) = refl

pub one_judgement : (q r : Result ℕ Rejection) → judgement_of q ≡ judgement_of r → q ≡ r
one_judgement q r e = sym (judged_back q) ∙ ap judged e ∙ judged_back r
