-- `checking::section::judge_section` meets its contract. Assumes nothing.
use Rattle.format.specs.Kit.{◌≡◌, sym, ap, ◌∙◌, subst, ℕ, arith}
use Rattle.format.specs.Limits.{Power}
use Rattle.format.specs.Refusals.{Outcome, done}
use Rattle.format.specs.Judge.{Verdict, faulty, as_verdict, judge, judge_section}
use Rattle.answers.specs.Replies.{order_of, reason_number}
use Rattle.laws.proofs.Rules.{power_fact}
use Rattle.checking.proofs.Bare.{power_outside, count_outside, limits_kept}
use Rattle.checking.proofs.section.judge_section.Goals as goal
use Rattle.checking.proofs.section.judge_section.Goals.{After-judge}

pub judge-requires : goal.judge-requires
judge-requires c =
    subst Power (sym c.size-p.ensures) (power_fact _ (sym c.power_ok.ensures ∙ c.if-not-power_ok.false))

-- what the judge says is the definition's
judged : (c : After-judge) {o : Outcome ℕ}
    → let a = c.args in
    o ≡ judge (order_of a.order) c.size-p.result c.size-j.result a.bytes.now
    → done (as_verdict o) ≡ judge_section (order_of a.order) a.power a.jump_count a.bytes.now
judged c e =
    ap {B = Outcome Verdict} (λ (x : Outcome ℕ). done (as_verdict x)) e
    ∙ limits_kept _ _ _ _ (sym c.power_ok.ensures ∙ c.if-not-power_ok.false) (omega arith) _ _
    c.size-p.ensures c.size-j.ensures

pub returns-in-Err : goal.returns-in-Err
returns-in-Err c =
    ap {B = Outcome Verdict} (λ (y : ℕ). done (faulty (reason_number c.in-Err.fault.reason) y)) c.long.ensures
    ∙ judged (goal.at.returns-in-Err c).After-judge c.in-Err.ensures

pub returns-then-not-power_ok : goal.returns-then-not-power_ok
returns-then-not-power_ok c = power_outside _ _ _ _ (sym c.power_ok.ensures ∙ c.if-not-power_ok.true)

pub returns-then-jump_count-gt-MAX_JUMPS : goal.returns-then-jump_count-gt-MAX_JUMPS
returns-then-jump_count-gt-MAX_JUMPS c = count_outside _ _ _ _ (omega arith)

pub returns-in-Ok : goal.returns-in-Ok
returns-in-Ok c = judged (goal.at.returns-in-Ok c).After-judge c.in-Ok.ensures
