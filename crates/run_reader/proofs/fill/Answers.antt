-- `run_reader::fill` meets its contract. The loop's invariant: of any list that all values are, the runs before run r are stored.
use Rattle.format.specs.Kit.{◌≡◌, refl, sym, ap, ap₂, ◌∙◌, subst, min, List, ◌++◌, some, ℕ, ◌+◌, ◌-◌, ◌*◌, ◌≤◌, ◌<◌, arith, ℤ, length, take, drop, length-take-le}
use Rattle.format.specs.Kit.{length-drop, drop_of_length-le, rules}
use Rattle.format.specs.ValueRuns.{run_length, directory_length, Summary, summary_at, in_run}
use Rattle.format.specs.Editions.{runs, codec}
use Rattle.format.specs.Check.{all_values}
use Rattle.format.specs.Stores.{Fill}
use Rattle.answers.specs.Replies.{fields_of}
use Rattle.laws.proofs.RoundTrip.{all_length}
use Rattle.laws.proofs.Stores.{begun, filled, sets_front}
use Rattle.run_values.specs.Summaries.{summary_is}
use Rattle.run_values.proofs.Reached.{Rules, rules_kept}
use Rattle.run_reader.proofs.Part.{its_values, run_more}
use Rattle.run_reader.proofs.fill.Goals as goal
use Rattle.run_reader.proofs.fill.Goals.{After-count_in, In-loop-r, Start}

the_rules : (s : Start) → Rules s.args.n (fields_of s.args.fields) (length s.args.section.now)
the_rules s = rules_kept _ _ _ s.requires.0

-- run r is there
there : (c : In-loop-r) → run_length * c.loop-r.r < c.args.n
there c = omega (arith, c.loop-r-test.true, c.run_count-r-end.ensures)

pub summary_at-x-requires : goal.summary_at-x-requires
summary_at-x-requires c = omega (arith, (the_rules (goal.at.summary_at-x-requires c).Start).directory, there c)

-- where it ends
ends : (c : After-count_in) → ((run_length * c.loop-r.r) + c.count_in.result ≤ c.args.n) × ((run_length * c.loop-r.r) + c.count_in.result ≤ length c.loop-r.values) × (0 < c.count_in.result)
ends c =
    let t = there (goal.at.After-count_in c).In-loop-r in
    let n : (run_length * c.loop-r.r) + c.count_in.result ≤ c.args.n = omega (arith, t, c.count_in.ensures) in
    (n, omega (arith, n, c.loop-r.invariant, c.requires.1), omega (arith, t, c.count_in.ensures))

-- its place in the buffer
abbrev place : (c : After-count_in) → List ℤ
place c = take ((run_length * c.loop-r.r) + c.count_in.result - (run_length * c.loop-r.r)) (drop (run_length * c.loop-r.r) c.loop-r.values)

long : (c : After-count_in) → length (place c) ≡ c.count_in.result
long c =
    let e = ends c in
    let m : (run_length * c.loop-r.r) + c.count_in.result - (run_length * c.loop-r.r) ≡ c.count_in.result = omega arith in
    length-take-le _ (drop (run_length * c.loop-r.r) c.loop-r.values) (omega (arith, e.1, length-drop (run_length * c.loop-r.r) c.loop-r.values)) ∙ m

-- its values, of any list that all values are
run_of : (c : After-count_in) → let a = c.args in
    (vs : List ℤ) → all_values a.n ((codec runs).value a.n (fields_of a.fields) a.section.now) ≡ some vs
    → all_values (length (place c)) (in_run a.fields.divisor (drop c.directory_length-from.result a.section.now)
    (summary_is c.summary_at-x.result))
    ≡ some (take ((run_length * c.loop-r.r) + c.count_in.result - (run_length * c.loop-r.r)) (drop (run_length * c.loop-r.r) vs))
run_of c vs e =
    let a = c.args in
    let t = there (goal.at.After-count_in c).In-loop-r in
    let k : (run_length * c.loop-r.r) + c.count_in.result - (run_length * c.loop-r.r) ≡ c.count_in.result = omega arith in
    ap₂ (λ (d : ℕ) (x : Summary). all_values (length (place c)) (in_run a.fields.divisor (drop d a.section.now) x)) c.directory_length-from.ensures
    c.summary_at-x.ensures.0
    ∙ ap (λ (m : ℕ). all_values m (in_run a.fields.divisor (drop (directory_length a.n) a.section.now) (summary_at a.section.now c.loop-r.r)))
    (long c)
    ∙ its_values a.n (fields_of a.fields) a.section.now vs e c.loop-r.r c.count_in.result (omega (arith, c.count_in.ensures))
    (omega (arith, (ends c).0))
    ∙ sym (ap (λ (m : ℕ). some (take m (drop (run_length * c.loop-r.r) vs))) k)

pub fill_run-requires : goal.fill_run-requires
fill_run-requires c =
    let r = the_rules (goal.at.fill_run-requires c).Start in (
      omega (arith, r.directory, c.directory_length-from.ensures),
      omega (arith, r.positive),
      omega (arith, long (goal.at.fill_run-requires c).After-count_in, (ends (goal.at.fill_run-requires c).After-count_in).2),
      omega (arith, long (goal.at.fill_run-requires c).After-count_in, c.count_in.ensures),
      (_, run_of (goal.at.fill_run-requires c).After-count_in c.requires.2.0 c.requires.2.1),
    )

-- the place of the next run, in other words
stands_at : (before vs values : List ℤ) (i k : ℕ) → i ≡ k → Fill before 0 vs values i (drop i vs) → Fill before 0 vs values k (drop k vs)
stands_at before vs values i k e f = subst (λ (j : ℕ). Fill before 0 vs values j (drop j vs)) e f

pub loop-r-preserved : goal.loop-r-preserved
loop-r-preserved c =
    let a = c.args in
    let t = there (goal.at.loop-r-preserved c).In-loop-r in
    let e = ends (goal.at.loop-r-preserved c).After-count_in in
    let i : ℕ = run_length * c.loop-r.r in
    λ k is vs all.
    let same : i + c.count_in.result ≡ k = omega (arith, is, t, c.count_in.ensures) in
    stands_at _ _ _ _ _ same
    (run_more (c.loop-r.invariant i (omega arith) vs all) (i + c.count_in.result) (omega arith) (omega (arith, e.0, all_length a.n _ vs all)) e.1
    c.fill_run.new.values (c.fill_run.ensures _ (run_of (goal.at.loop-r-preserved c).After-count_in vs all)))

pub returns : goal.returns
returns c vs all =
    let a = c.args in
    let n = all_length a.n _ vs all in
    let each : a.n ≡ min (run_length * c.loop-r.r) a.n = omega (arith, c.loop-r-test.false, c.run_count-r-end.ensures) in
    filled _ _ _ _ _ _ (c.loop-r.invariant a.n each vs all) (drop_of_length-le vs {i = a.n} (omega (arith, n)))
    ∙ sets_front a.values.now vs (omega (arith, n, c.requires.1)) ∙ ap (λ (k : ℕ). vs ++ drop k a.values.now) n

pub loop-r-init : goal.loop-r-init
loop-r-init c i is vs e = let z : i ≡ 0 = omega (arith, is) in rw z (begun _ _ _ _ refl)

pub count_in-requires : goal.count_in-requires
count_in-requires c = omega (arith, there (goal.at.count_in-requires c).In-loop-r)

pub overflow_add-end : goal.overflow_add-end
overflow_add-end c = omega (arith, (ends c).0)

pub offset_bounds-values-i : goal.offset_bounds-values-i
offset_bounds-values-i c = let h = (ends c).1 in search rules

pub slice_bounds-fill_run-count : goal.slice_bounds-fill_run-count
slice_bounds-fill_run-count c = let h = (ends c).1 in search rules

pub slice_bounds-fill_run-start : goal.slice_bounds-fill_run-start
slice_bounds-fill_run-start c = let h = (ends c).1 in search rules

pub slice_bounds-fill_run-end : goal.slice_bounds-fill_run-end
slice_bounds-fill_run-end c = let h = (ends c).1 in search rules
