-- `run_reader::draw_run` meets its contract: what draws values from edition 1's section draws them from a run. Assumes nothing.
use Rattle.format.specs.Kit.{◌≡◌, ap, ◌∙◌, List, ◌+◌, ◌-◌, ◌≤◌, arith, ℤ, length, drop, sets}
use Rattle.format.specs.Bits.{packed_bytes}
use Rattle.format.specs.ValueRuns.{in_run}
use Rattle.run_values.specs.Summaries.{summary_is}
use Rattle.run_reader.proofs.Part.{run_narrow, run_starts, run_inside, run_rules, same_value}
use Rattle.run_reader.proofs.Rest.{drawn_same}
use Rattle.run_reader.proofs.draw_run.Goals as goal
use Rattle.run_reader.proofs.draw_run.Goals.{After-fetched_from-at}

-- the run is within the section
inside : (c : After-fetched_from-at) → let a = c.args in
    (c.fetched_from-at.result ≤ length a.section.now) × (packed_bytes a.count a.x.width ≤ length a.section.now - c.fetched_from-at.result)
inside c =
    let a = c.args in
    run_inside a.section.now a.directory (summary_is a.x) a.count c.requires.2 c.requires.7 c.requires.0 c.fetched_from-at.result
    c.fetched_from-at.ensures

ends : (c : After-fetched_from-at) → c.fetched_from-at.result + c.packed_bytes-bytes.result ≤ length c.args.section.now
ends c = omega (arith, inside c, c.packed_bytes-bytes.ensures.0)

pub packed_bytes-bytes-requires : goal.packed_bytes-bytes-requires
packed_bytes-bytes-requires c =
    let a = c.args in
    (omega (arith, c.requires.3), run_narrow a.section.now a.directory (summary_is a.x) a.count c.requires.2 c.requires.7)

pub fetched_from-at-requires : goal.fetched_from-at-requires
fetched_from-at-requires c =
    let a = c.args in
    λ z. omega (arith, run_starts a.section.now a.directory (summary_is a.x) a.count c.requires.2 c.requires.7 z, c.requires.0)

-- the run's part
part : (f : After-fetched_from-at) → let a = f.args in
    f.fetched_from-at.result + f.packed_bytes-bytes.result - f.fetched_from-at.result ≡ packed_bytes a.count a.x.width
part f = omega (arith, f.packed_bytes-bytes.ensures.0)

pub draw_numbers-requires : goal.draw_numbers-requires
draw_numbers-requires c =
    let a = c.args in (
      omega (arith, c.requires.3),
      run_rules a.section.now a.directory (summary_is a.x) a.count c.requires.2 c.requires.7 c.requires.0 c.fetched_from-at.result
          c.fetched_from-at.ensures a.divisor _ (part (goal.at.draw_numbers-requires c).After-fetched_from-at) _ c.number_of.ensures c.requires.1,
      c.requires.4,
      c.requires.5,
      c.requires.6,
    )

pub returns : goal.returns
returns c =
    let a = c.args in
    let e = drawn_same _ (in_run a.divisor (drop a.directory a.section.now) (summary_is a.x)) (a.end - a.from) a.k a.k (λ j l.
    same_value a.section.now a.directory (summary_is a.x) a.count c.requires.2 c.requires.7 c.requires.0 c.fetched_from-at.result
    c.fetched_from-at.ensures a.divisor _ (part (goal.at.returns c).After-fetched_from-at) _ c.number_of.ensures (a.k + j) (omega (arith, l, c.requires.4))) in
    (c.draw_numbers.ensures.0 ∙ ap (λ (vs : List ℤ). a.from + length vs) e, c.draw_numbers.ensures.1 ∙ ap (sets a.values.now a.from) e)

pub overflow_add-after : goal.overflow_add-after
overflow_add-after c = omega (arith, ends c)

pub slice_bounds-draw_numbers-end : goal.slice_bounds-draw_numbers-end
slice_bounds-draw_numbers-end c = omega (arith, ends (goal.at.slice_bounds-draw_numbers-end c).After-fetched_from-at)
