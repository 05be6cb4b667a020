-- `run_writer::length` meets its contract. The loop's invariant: the sum is the directory and the bytes of the runs before run r.
use Rattle.format.specs.Kit.{◌≡◌, sym, ap, ap₂, ◌∙◌, ℕ, List, ℤ, [], ◌+◌, ◌<◌, add-zero, add-one, arith, length, get_or}
use Rattle.format.specs.Bytes.{bytes_of}
use Rattle.format.specs.Bits.{packed_bytes}
use Rattle.format.specs.Values.{divisor, width_with}
use Rattle.format.specs.Codec.{Fields}
use Rattle.format.specs.ValueRuns.{run_count, directory_length, runs_of, run_bytes, Summary, summary_of, run_section}
use Rattle.laws.proofs.Bounds.{divisor_is}
use Rattle.laws.proofs.ValueRuns.{length_run, run_start, start_le, start_more}
use Rattle.laws.proofs.InRuns.{runs_count, length_section, section_le}
use Rattle.laws.proofs.Editions.{runs_fields, runs_section}
use Rattle.run_writer.proofs.Laid.{part, IsRun, part_is, start_all}
use Rattle.run_writer.proofs.length.Goals as goal
use Rattle.run_writer.proofs.length.Goals.{After-count_in, After-packed_bytes-sum, In-loop-r, Start}

own : (s : Start) → s.args.fields.divisor ≡ divisor s.args.values.now
own s = ap (λ (f : Fields). f.divisor) (s.requires.0 ∙ runs_fields s.args.values.now)

pub loop-r-init : goal.loop-r-init
unfolding bytes_of
loop-r-init c = (omega arith, c.directory_length-sum.ensures ∙ sym (add-zero _))

-- run r is there
there : (c : In-loop-r) → c.loop-r.r < run_count (length c.args.values.now)
there c = omega (arith, c.loop-r-test.true, c.run_count-count.ensures)

-- its values
here : (c : After-count_in) → IsRun c.args.values.now c.loop-r.r c.count_in.result
here c = part_is c.args.values.now c.loop-r.r c.count_in.result (there (goal.at.After-count_in c).In-loop-r) c.count_in.ensures

-- its bytes
bytes_are : (c : After-packed_bytes-sum) → let vs = c.args.values.now in
    c.packed_bytes-sum.result ≡ length (run_bytes (divisor vs) (get_or (runs_of vs) c.loop-r.r []))
unfolding summary_of
bytes_are c =
    let vs = c.args.values.now in
    c.packed_bytes-sum.ensures.0
    ∙ ap₂ (λ (k w : ℕ). packed_bytes k w) (sym (here (goal.at.After-packed_bytes-sum c).After-count_in).long) (ap (λ (x : Summary). x.width) c.summary_of-x.ensures.0
    ∙ ap (λ (g : ℕ). width_with g (part vs c.loop-r.r c.count_in.result)) (own (goal.at.After-packed_bytes-sum c).Start))
    ∙ sym (length_run (divisor vs) (part vs c.loop-r.r c.count_in.result))
    ∙ ap (λ (r : List ℤ). length (run_bytes (divisor vs) r)) (here (goal.at.After-packed_bytes-sum c).After-count_in).run

next_sum : (c : After-packed_bytes-sum) → let vs = c.args.values.now in
    c.loop-r.sum + c.packed_bytes-sum.result ≡ directory_length (length vs) + run_start (divisor vs) (runs_of vs) (c.loop-r.r + 1)
next_sum c =
    let vs = c.args.values.now in
    let more : run_start (divisor vs) (runs_of vs) (c.loop-r.r + 1) ≡ run_start (divisor vs) (runs_of vs) c.loop-r.r + c.packed_bytes-sum.result =
    ap (run_start (divisor vs) (runs_of vs)) (add-one c.loop-r.r) ∙ start_more (divisor vs) (runs_of vs) c.loop-r.r
    (omega (arith, there (goal.at.After-packed_bytes-sum c).In-loop-r, runs_count vs))
    ∙ ap (λ (b : ℕ). run_start (divisor vs) (runs_of vs) c.loop-r.r + b) (sym (bytes_are c)) in
    omega (arith, c.loop-r.invariant.1, more)

pub overflow_add-sum : goal.overflow_add-sum
overflow_add-sum c =
    let vs = c.args.values.now in
    omega (arith, next_sum c, start_le (divisor vs) (runs_of vs) (c.loop-r.r + 1), length_section vs, section_le vs c.requires.1, c.requires.2)

pub returns : goal.returns
returns c =
    let vs = c.args.values.now in
    let all : c.loop-r.sum ≡ length (run_section (divisor vs) (runs_of vs)) =
    c.loop-r.invariant.1
    ∙ ap (λ (k : ℕ). directory_length (length vs) + k)
    (start_all (divisor vs) (runs_of vs) c.loop-r.r (omega (arith, c.loop-r-test.false, c.run_count-count.ensures, runs_count vs)))
    ∙ sym (length_section vs) in
    (all ∙ ap length (sym (runs_section vs)), omega (arith, all, section_le vs c.requires.1))

pub overflow_mul-i : goal.overflow_mul-i
overflow_mul-i c = omega (arith, there c)

pub count_in-requires : goal.count_in-requires
count_in-requires c = omega (arith, there c)

pub overflow_add-j : goal.overflow_add-j
overflow_add-j c = omega (arith, (here c).ends)

pub summary_of-x-requires : goal.summary_of-x-requires
summary_of-x-requires c = omega (arith, own (goal.at.summary_of-x-requires c).Start, (divisor_is c.args.values.now c.requires.1).0)

pub packed_bytes-sum-requires : goal.packed_bytes-sum-requires
packed_bytes-sum-requires c = (omega (arith, c.count_in.ensures), c.summary_of-x.ensures.1)

pub loop-r-preserved : goal.loop-r-preserved
loop-r-preserved c = (omega (arith, c.loop-r-test.true), next_sum c)
