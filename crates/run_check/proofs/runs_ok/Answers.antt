-- `run_check::runs_ok` meets its contract. The loop's invariant: the runs that are left, with what the others left behind, give what all give.
use Rattle.format.specs.Kit.{◌≡◌, sym, ap, ap₂, ◌∙◌, true, ℕ, ◌+◌, ◌-◌, ◌*◌, ◌≤◌, min, arith, length, eq-eqb, ne_eqb}
use Rattle.format.specs.Limits.{max_width}
use Rattle.format.specs.Bits.{packed_bytes}
use Rattle.format.specs.Values.{over, gcd, gcd_from}
use Rattle.format.specs.ValueRuns.{run_length, run_count, Summary, summary_at}
use Rattle.run_values.specs.Summaries.{summary_is}
use Rattle.run_check.specs.RunsOk.{numbers_at, run_ok, runs_ok}
use Rattle.run_check.proofs.Gone.{run_bad, run_good, runs_over}
use Rattle.run_check.proofs.Ran as Ran
use Rattle.run_check.proofs.runs_ok.Goals as goal
use Rattle.run_check.proofs.runs_ok.Goals.{After-run_ok, At-loop-r, In-Some}

-- the run as the definition has it
same_run : (c : After-run_ok) → let a = c.args in
    run_ok a.g a.rest.now c.loop-r.at c.count_in-count.result (summary_is c.summary_at-x.result)
    ≡ run_ok a.g a.rest.now c.loop-r.at (min run_length (a.n - run_length * c.loop-r.r)) (summary_at a.section.now c.loop-r.r)
same_run c =
    let a = c.args in
    ap₂ (run_ok a.g a.rest.now c.loop-r.at) c.count_in-count.ensures c.summary_at-x.ensures.0

-- what is left is the whole
whole : (l : At-loop-r) → let a = l.args in
    runs_ok a.g a.section.now a.rest.now a.n (l.run_count-runs.result - l.loop-r.r) l.loop-r.r l.loop-r.at l.loop-r.apart l.loop-r.d
    ≡ runs_ok a.g a.section.now a.rest.now a.n (run_count a.n) 0 0 0 0
whole l =
    let a = l.args in
    sym l.loop-r.invariant.2 ∙ ap (λ (k : ℕ). runs_ok a.g a.section.now a.rest.now a.n k 0 0 0 0) l.run_count-runs.ensures

pub returns-in_default : goal.returns-in_default
returns-in_default c =
    let a = c.args in
    run_bad a.g a.section.now a.rest.now a.n c.run_count-runs.result c.loop-r.r c.loop-r.at c.loop-r.apart c.loop-r.d
    c.loop-r-test.true (sym (same_run (goal.at.returns-in_default c).After-run_ok) ∙ c.in_default.ensures)
    ∙ whole (goal.at.returns-in_default c).At-loop-r

passed : (c : In-Some) → let a = c.args in
    run_ok a.g a.rest.now c.loop-r.at (min run_length (a.n - run_length * c.loop-r.r)) (summary_at a.section.now c.loop-r.r) ≡ true
passed c = sym (same_run (goal.at.In-Some c).After-run_ok) ∙ c.in-Some.ensures.0

ends : (c : In-Some) → let a = c.args in
    let x = c.summary_at-x.result in
    (x.width ≤ max_width) × (c.loop-r.at + packed_bytes c.count_in-count.result x.width ≤ length a.rest.now)
ends c =
    let a = c.args in
    let p = Ran.passed a.g a.rest.now c.loop-r.at c.count_in-count.result (summary_is c.summary_at-x.result)
    (same_run (goal.at.In-Some c).After-run_ok ∙ passed c) in
    (p.narrow, p.within)

pub packed_bytes-requires : goal.packed_bytes-requires
packed_bytes-requires c =
    (omega (arith, c.count_in-count.ensures), (ends (goal.at.packed_bytes-requires c).In-Some).0)

pub loop-r-preserved : goal.loop-r-preserved
loop-r-preserved c =
    let a = c.args in
    let x = c.summary_at-x.ensures.0 in
    let e = c.count_in-count.ensures in (
      omega (arith, c.loop-r-test.true),
      omega (arith, (ends (goal.at.loop-r-preserved c).In-Some).1, c.packed_bytes.ensures.0),
      c.loop-r.invariant.2
          ∙ run_good a.g a.section.now a.rest.now a.n c.run_count-runs.result c.loop-r.r c.loop-r.at c.loop-r.apart c.loop-r.d
          c.loop-r-test.true (passed (goal.at.loop-r-preserved c).In-Some)
          (ap (λ (b : ℕ). c.loop-r.at + b)
          (c.packed_bytes.ensures.0 ∙ ap₂ (λ (i w : ℕ). packed_bytes i w) e (ap (λ (y : Summary). y.width) x)))
          (c.gcd-apart.ensures
          ∙ ap (gcd c.loop-r.apart)
          (c.distance.ensures
          ∙ ap₂ over (ap (λ (y : Summary). y.smallest) c.summary_at-base.ensures.0) (ap (λ (y : Summary). y.smallest) x)))
          (c.in-Some.ensures.1
          ∙ ap₂ (λ (i w : ℕ). gcd_from c.loop-r.d (numbers_at a.rest.now c.loop-r.at i w)) e (ap (λ (y : Summary). y.width) x)),
    )

pub returns-then-at-rest : goal.returns-then-at-rest
returns-then-at-rest c =
    let a = c.args in
    sym
    (sym (whole (goal.at.returns-then-at-rest c).At-loop-r)
    ∙ runs_over a.g a.section.now a.rest.now a.n c.run_count-runs.result c.loop-r.r c.loop-r.at c.loop-r.apart c.loop-r.d
    c.loop-r-test.false
    ∙ rw (ne_eqb c.loop-r.at (length a.rest.now) c.if-at-rest.true))

pub returns : goal.returns
returns c =
    let a = c.args in
    c.divisor_ok.ensures
    ∙ sym
    (sym (whole (goal.at.returns c).At-loop-r)
    ∙ runs_over a.g a.section.now a.rest.now a.n c.run_count-runs.result c.loop-r.r c.loop-r.at c.loop-r.apart c.loop-r.d
    c.loop-r-test.false
    ∙ rw (eq-eqb c.loop-r.at (length a.rest.now) c.if-at-rest.false))
