-- `run_search::in_run` meets its contract. Assumes nothing.
use Rattle.format.specs.Kit.{◌≡◌, ap, ◌∙◌, arith, length}
use Rattle.format.specs.ValueRuns.{summary_at}
use Rattle.format.specs.FirstBetween.{skipped}
use Rattle.answers.specs.Replies.{fields_of}
use Rattle.signed.specs.Sign.{unbiased}
use Rattle.run_values.proofs.Reached.{Rules, rules_kept}
use Rattle.run_search.proofs.in_run.Goals as goal
use Rattle.run_search.proofs.in_run.Goals.{After-passed_by, Start}

the_rules : (s : Start) → Rules s.args.n (fields_of s.args.fields) (length s.args.section.now)
the_rules s = rules_kept _ _ _ s.requires.0

-- whether the run is skipped
tested : (c : After-passed_by) → let a = c.args in
    c.passed_by.result ≡ skipped (unbiased a.low) (unbiased a.high) (summary_at a.section.now a.r)
tested c =
    let a = c.args in
    c.passed_by.ensures ∙ ap (skipped (unbiased a.low) (unbiased a.high)) c.summary_at-x.ensures.0

pub returns-then-passed_by : goal.returns-then-passed_by
returns-then-passed_by c = λ more. rw (← tested (goal.at.returns-then-passed_by c).After-passed_by, c.if-passed_by.true)

pub returns : goal.returns
returns c = λ more. c.scan_run.ensures more ∙ rw (← tested (goal.at.returns c).After-passed_by, c.if-passed_by.false)

pub summary_at-x-requires : goal.summary_at-x-requires
summary_at-x-requires c = omega (arith, (the_rules (goal.at.summary_at-x-requires c).Start).directory, c.requires.1)
