-- `run_writer::put` meets its contract. The loop's invariant: what is left of the directory and of the runs, put where it goes, makes the whole
use Rattle.format.specs.Kit.{◌≡◌, sym, ap, ap₂, ◌∙◌, subst, ℕ, List, ℤ, [], ◌++◌, ◌+◌, ◌*◌, ◌≤◌, ◌<◌, arith, length, get_or, drop, sets}
use Rattle.format.specs.Values.{divisor}
use Rattle.format.specs.Pairs.{Each, Fits}
use Rattle.format.specs.Codec.{Fields}
use Rattle.format.specs.ValueRuns.{run_count, runs_of, run_bytes, summary_of, summary_bytes, run_section}
use Rattle.laws.proofs.Bounds.{divisor_is}
use Rattle.laws.proofs.InRuns.{runs_count, run_each}
use Rattle.laws.proofs.Editions.{runs_fields, runs_section}
use Rattle.run_writer.proofs.Laid.{IsRun, part_is, Laid, laid_none, laid_more, laid_room, laid_all}
use Rattle.run_writer.proofs.put.Goals as goal
use Rattle.run_writer.proofs.put.Goals.{After-count_in, After-put_run-start, In-loop-r, Start}

own : (s : Start) → s.args.fields.divisor ≡ divisor s.args.values.now
own s = ap (λ (f : Fields). f.divisor) (s.requires.0 ∙ runs_fields s.args.values.now)

fits : (s : Start) → let vs = s.args.values.now in length (run_section (divisor vs) (runs_of vs)) ≤ length s.args.out.now
fits s = subst (λ (l : List ℕ). length l ≤ length s.args.out.now) (runs_section s.args.values.now) s.requires.2

-- run r is there
there : (c : In-loop-r) → c.loop-r.r < run_count (length c.args.values.now)
there c = omega (arith, c.loop-r-test.true, c.run_count-count.ensures)

-- its values
here : (c : After-count_in) → IsRun c.args.values.now c.loop-r.r c.count_in.result
here c = part_is c.args.values.now c.loop-r.r c.count_in.result (there (goal.at.After-count_in c).In-loop-r) c.count_in.ensures

-- there is room for it
room : (c : After-count_in) → let vs = c.args.values.now in
    (25 * c.loop-r.r + 25 ≤ 25 * length (runs_of vs))
    × (25 * length (runs_of vs) + c.loop-r.start + length (run_bytes (divisor vs) (get_or (runs_of vs) c.loop-r.r [])) ≤ length c.loop-r.out)
room c =
    let vs = c.args.values.now in
    laid_room (divisor vs) (runs_of vs) _ _ _ _ c.loop-r.invariant.1 (omega (arith, there (goal.at.After-count_in c).In-loop-r, runs_count vs)) (fits (goal.at.After-count_in c).Start)

pub put_run-start-requires : goal.put_run-start-requires
put_run-start-requires c =
    let vs = c.args.values.now in
    let d = c.directory_length-from.ensures in
    let w = room (goal.at.put_run-start-requires c).After-count_in in (
      omega (arith, w.0, d, runs_count vs),
      omega (arith, own (goal.at.put_run-start-requires c).Start, (divisor_is vs c.requires.1).0),
      omega (arith, (here (goal.at.put_run-start-requires c).After-count_in).long, c.count_in.ensures),
      subst (Each Fits) (sym (here (goal.at.put_run-start-requires c).After-count_in).run) (run_each vs Fits c.requires.1 c.loop-r.r (there (goal.at.put_run-start-requires c).In-loop-r)),
      omega (arith, w.1, d, runs_count vs, ap₂ (λ (g : ℕ) (r : List ℤ). length (run_bytes g r)) (own (goal.at.put_run-start-requires c).Start) (here (goal.at.put_run-start-requires c).After-count_in).run),
    )

-- one run more
laid : (c : After-put_run-start) → let vs = c.args.values.now in
    Laid (divisor vs) (runs_of vs) c.args.out.now c.put_run-start.new.out (c.loop-r.r + 1) (c.loop-r.start + c.put_run-start.result)
laid c =
    let vs = c.args.values.now in
    let g = own (goal.at.After-put_run-start c).Start in
    let from : c.directory_length-from.result ≡ 25 * length (runs_of vs) = c.directory_length-from.ensures
    ∙ ap (λ (k : ℕ). 25 * k) (sym (runs_count vs)) in
    laid_more (divisor vs) (runs_of vs) _ c.loop-r.out c.loop-r.r c.loop-r.start c.loop-r.invariant.1 (omega (arith, there (goal.at.After-put_run-start c).In-loop-r, runs_count vs))
    c.put_run-start.new.out (c.loop-r.start + c.put_run-start.result) c.put_run-start.result
    (c.put_run-start.ensures.1
    ∙ ap₂ (λ (d : ℕ) (r : List ℤ).
    sets (sets c.loop-r.out (25 * c.loop-r.r) (summary_bytes (summary_of d c.loop-r.start r))) (c.directory_length-from.result + c.loop-r.start)
    (run_bytes d r)) g (here (goal.at.After-put_run-start c).After-count_in).run
    ∙ ap (λ (f : ℕ).
    sets (sets c.loop-r.out (25 * c.loop-r.r) (summary_bytes (summary_of (divisor vs) c.loop-r.start (get_or (runs_of vs) c.loop-r.r []))))
    (f + c.loop-r.start)
    (run_bytes (divisor vs) (get_or (runs_of vs) c.loop-r.r []))) from)
    (c.put_run-start.ensures.0 ∙ ap₂ (λ (d : ℕ) (r : List ℤ). length (run_bytes d r)) g (here (goal.at.After-put_run-start c).After-count_in).run) (λ j. c.loop-r.start + c.put_run-start.result)

pub overflow_add-start : goal.overflow_add-start
overflow_add-start c =
    let vs = c.args.values.now in
    omega (arith, (room (goal.at.overflow_add-start c).After-count_in).1, c.put_run-start.ensures.0, ap₂ (λ (d : ℕ) (r : List ℤ). length (run_bytes d r)) (own (goal.at.overflow_add-start c).Start) (here (goal.at.overflow_add-start c).After-count_in).run, c.loop-r.invariant.1.kept)

pub returns : goal.returns
returns c =
    let vs = c.args.values.now in
    laid_all (divisor vs) (runs_of vs) c.args.out.now c.loop-r.out c.loop-r.r c.loop-r.start c.loop-r.invariant.1
    (omega (arith, c.loop-r-test.false, c.run_count-count.ensures, runs_count vs)) (fits (goal.at.returns c).Start)
    ∙ ap (λ (x : List ℕ). x ++ drop (length x) c.args.out.now) (sym (runs_section vs))

pub loop-r-init : goal.loop-r-init
loop-r-init c = (omega arith, laid_none _ _ _)

pub overflow_mul-i : goal.overflow_mul-i
overflow_mul-i c = omega (arith, there c)

pub count_in-requires : goal.count_in-requires
count_in-requires c = omega (arith, there c)

pub overflow_add-j : goal.overflow_add-j
overflow_add-j c = omega (arith, (here c).ends)

pub loop-r-preserved : goal.loop-r-preserved
loop-r-preserved c = (omega (arith, c.loop-r-test.true), laid (goal.at.loop-r-preserved c).After-put_run-start)

pub shape_of-out : goal.shape_of-out
shape_of-out c = c.loop-r.invariant.1.kept
