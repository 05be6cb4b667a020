-- `run_check::values_ok` meets its contract. Assumes nothing.
use Rattle.format.specs.Kit.{◌≡◌, ap, ◌∙◌, ℕ, List, ◌-◌, arith, length, take, drop, take_all, length-drop}
use Rattle.format.specs.ValueRuns.{run_count}
use Rattle.answers.specs.Replies.{fields_of}
use Rattle.run_values.proofs.Reached.{Rules, rules_kept}
use Rattle.run_check.specs.RunsOk.{runs_ok, values_ok}
use Rattle.run_check.proofs.values_ok.Goals as goal
use Rattle.run_check.proofs.values_ok.Goals.{Start}

the_rules : (s : Start) → Rules s.args.n (fields_of s.args.fields) (length s.args.section.now)
the_rules s = rules_kept _ _ _ s.requires

pub returns : goal.returns
unfolding values_ok
returns c =
    let a = c.args in
    let s = a.section.now in
    let from = c.directory_length-from.result in
    let rest : take (length s - from) (drop from s) ≡ drop from s = take_all (length s - from) (drop from s) (omega (arith, length-drop from s)) in
    c.runs_ok.ensures
    ∙ ap (λ (l : List ℕ). runs_ok a.fields.divisor s l a.n (run_count a.n) 0 0 0 0) (rest ∙ ap (λ (k : ℕ). drop k s) c.directory_length-from.ensures)

pub slice_bounds-runs_ok-count : goal.slice_bounds-runs_ok-count
slice_bounds-runs_ok-count c = omega (arith, (the_rules (goal.at.slice_bounds-runs_ok-count c).Start).directory, c.directory_length-from.ensures)

pub slice_bounds-runs_ok-start : goal.slice_bounds-runs_ok-start
slice_bounds-runs_ok-start c = omega (arith, (the_rules (goal.at.slice_bounds-runs_ok-start c).Start).directory, c.directory_length-from.ensures)

pub runs_ok-requires : goal.runs_ok-requires
runs_ok-requires c = let r = the_rules (goal.at.runs_ok-requires c).Start in (r.directory, omega (arith, r.positive))
