use Rattle.format.specs.Kit.{◌≡◌, ◌-◌}
use Rattle.format.specs.ValueRuns.{summary_at}
use Rattle.format.specs.Editions.{runs, codec}
use Rattle.format.specs.FirstBetween.{runs_from}
use Rattle.answers.specs.Replies.{fields_of}
use Rattle.signed.specs.Sign.{unbiased}
use Rattle.run_search.proofs.in_runs.Given as goal

-- `run_search::in_runs` meets its contract. The loop's invariant: the runs that are left give what all give. Assumes nothing.
abbrev pub invariant-loop-r : goal.invariant-loop-r
invariant-loop-r l =
    runs_from ((codec runs).value l.n (fields_of l.fields) l.section) (summary_at l.section) (unbiased l.low) (unbiased l.high) l.n (l.runs - l.first) l.first
    ≡ runs_from ((codec runs).value l.n (fields_of l.fields) l.section) (summary_at l.section) (unbiased l.low) (unbiased l.high) l.n (l.runs - l.r) l.r
