-- `run_search::in_runs` meets its contract. The loop's invariant: the runs that are left give what all give. Assumes nothing.
use Rattle.format.specs.Kit.{◌≡◌, refl, sym, ap, ◌∙◌, ℕ, ◌-◌, arith}
use Rattle.format.specs.ValueRuns.{run_count, summary_at}
use Rattle.format.specs.Editions.{runs, codec}
use Rattle.format.specs.FirstBetween.{runs_from}
use Rattle.answers.specs.Replies.{fields_of}
use Rattle.signed.specs.Sign.{unbiased}
use Rattle.run_search.proofs.Left.{run_left, runs_end}
use Rattle.std.specs.Prelude.{Some, None, Ok, Err}
use Rattle.std.proofs.lemmas.Result.{err_from_is_err_and}
use Rattle.run_search.proofs.in_runs.Goals as goal
use Rattle.run_search.proofs.in_runs.Goals.{At-loop-r}

-- the runs that are left are the whole
whole : (l : At-loop-r) → let a = l.args in
    runs_from ((codec runs).value a.n (fields_of a.fields) a.section.now) (summary_at a.section.now) (unbiased a.low) (unbiased a.high) a.n
    (l.run_count-runs.result - l.loop-r.r) l.loop-r.r
    ≡ runs_from ((codec runs).value a.n (fields_of a.fields) a.section.now) (summary_at a.section.now) (unbiased a.low) (unbiased a.high) a.n
    (run_count a.n - a.first) a.first
whole l =
    let a = l.args in
    sym l.loop-r.invariant
    ∙ ap (λ (k : ℕ). runs_from ((codec runs).value a.n (fields_of a.fields) a.section.now) (summary_at a.section.now) (unbiased a.low)
    (unbiased a.high) a.n (k - a.first) a.first)
    l.run_count-runs.ensures

-- what run r says, and then the rest
pub returns-in-Some : goal.returns-in-Some
returns-in-Some c =
    let a = c.args in
    run_left _ (summary_at a.section.now) (unbiased a.low) (unbiased a.high) a.n c.loop-r.r c.run_count-runs.result c.loop-r-test.true
    (Ok (Some c.in-Some.ordinal)) (rw c.in-Some.is at c.in_ok-ordinal.ensures) ∙ whole (goal.at.returns-in-Some c).At-loop-r

pub returns-in_err-ordinal : goal.returns-in_err-ordinal
returns-in_err-ordinal c =
    let a = c.args in
    let p = err_from_is_err_and c.from_residual.result c.from_residual.ensures.1 in
    rw (p.1, p.2)
    (run_left _ (summary_at a.section.now) (unbiased a.low) (unbiased a.high) a.n c.loop-r.r c.run_count-runs.result c.loop-r-test.true
    (Err c.in_err-ordinal.field-0.0) c.in_err-ordinal.ensures ∙ whole (goal.at.returns-in_err-ordinal c).At-loop-r)

pub loop-r-preserved : goal.loop-r-preserved
loop-r-preserved c =
    let a = c.args in
    c.loop-r.invariant
    ∙ sym (run_left _ (summary_at a.section.now) (unbiased a.low) (unbiased a.high) a.n c.loop-r.r c.run_count-runs.result c.loop-r-test.true
    (Ok None) (rw c.in_default.is at c.in_ok-ordinal.ensures))

pub returns : goal.returns
returns c =
    let a = c.args in
    runs_end _ (summary_at a.section.now) (unbiased a.low) (unbiased a.high) a.n c.run_count-runs.result c.loop-r.r c.loop-r-test.false
    ∙ whole (goal.at.returns c).At-loop-r

pub loop-r-init : goal.loop-r-init
loop-r-init c = refl

pub in_run-requires : goal.in_run-requires
in_run-requires c = (c.requires.0, omega (arith, c.loop-r-test.true, c.run_count-runs.ensures), omega arith)
