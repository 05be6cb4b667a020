use Rattle.format.specs.Kit.{◌≡◌, Option, ℕ, ◌+◌, ◌-◌, ◌*◌}
use Rattle.format.specs.Refusals.{Outcome}
use Rattle.format.specs.ValueRuns.{run_length}
use Rattle.format.specs.Editions.{runs, codec}
use Rattle.format.specs.FirstBetween.{scan_from}
use Rattle.answers.specs.Replies.{fields_of}
use Rattle.signed.specs.Sign.{unbiased}
use Rattle.run_search.proofs.scan_run.Given as goal

-- `run_search::scan_run` meets its contract. The loop's invariant: what is left of the scan from value k on gives what the whole gives.
-- Assumes nothing.
abbrev pub invariant-loop-k : goal.invariant-loop-k
invariant-loop-k l =
    ((more : Outcome (Option ℕ)) → scan_from ((codec runs).value l.n (fields_of l.fields) l.section) (unbiased l.low) (unbiased l.high) (l.count - l.from)
    (run_length * l.r + l.from) more
    ≡ scan_from ((codec runs).value l.n (fields_of l.fields) l.section) (unbiased l.low) (unbiased l.high) (l.count - l.k) (run_length * l.r + l.k) more)
