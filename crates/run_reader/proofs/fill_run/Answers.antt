-- `run_reader::fill_run` meets its contract: what fills a buffer from edition 1's section fills it from a run. Assumes nothing.
use Rattle.format.specs.Kit.{◌≡◌, ap, ◌∙◌, true, append-nil, List, ◌++◌, ℕ, ◌+◌, ◌-◌, ◌≤◌, arith, ℤ, length, drop-length, rules}
use Rattle.format.specs.Bits.{packed_bytes}
use Rattle.laws.proofs.RoundTrip.{all_same}
use Rattle.run_values.specs.Summaries.{summary_is, reaches_in}
use Rattle.run_reader.proofs.Part.{all_stands, run_narrow, run_starts, run_inside, run_rules, same_value}
use Rattle.run_reader.proofs.fill_run.Goals as goal
use Rattle.run_reader.proofs.fill_run.Goals.{After-fetched_from-at, Start}

stands : (s : Start) → let a = s.args in
    reaches_in (length a.section.now - a.«from») a.x.start a.x.width (length a.values.now - 1) ≡ true
stands s =
    let a = s.args in
    all_stands a.section.now a.«from» a.divisor (summary_is a.x) (length a.values.now) s.requires.4.0 s.requires.4.1 s.requires.2

pub packed_bytes-bytes-requires : goal.packed_bytes-bytes-requires
packed_bytes-bytes-requires c =
    let a = c.args in (
      omega (arith, c.requires.3),
      run_narrow a.section.now a.«from» (summary_is a.x) (length a.values.now) c.requires.2 (stands (goal.at.packed_bytes-bytes-requires c).Start),
    )

pub fetched_from-at-requires : goal.fetched_from-at-requires
fetched_from-at-requires c =
    let a = c.args in
    λ z. omega (
      arith,
      run_starts a.section.now a.«from» (summary_is a.x) (length a.values.now) c.requires.2 (stands (goal.at.fetched_from-at-requires c).Start) z,
      c.requires.0,
    )

-- the run is within the section
inside : (c : After-fetched_from-at) → let a = c.args in
    (c.fetched_from-at.result ≤ length a.section.now)
    × (packed_bytes (length a.values.now) a.x.width ≤ length a.section.now - c.fetched_from-at.result)
inside c =
    let a = c.args in
    run_inside a.section.now a.«from» (summary_is a.x) (length a.values.now) c.requires.2 (stands (goal.at.After-fetched_from-at c).Start) c.requires.0
    c.fetched_from-at.result c.fetched_from-at.ensures

ends : (c : After-fetched_from-at) → c.fetched_from-at.result + c.packed_bytes-bytes.result ≤ length c.args.section.now
ends c = omega (arith, inside c, c.packed_bytes-bytes.ensures.0)

pub fill-requires : goal.fill-requires
fill-requires c =
    let a = c.args in
    let at : ℕ = c.fetched_from-at.result in
    let n : at + c.packed_bytes-bytes.result - at ≡ packed_bytes (length a.values.now) a.x.width = omega (arith, c.packed_bytes-bytes.ensures.0) in (
      omega (arith, c.requires.3),
      run_rules a.section.now a.«from» (summary_is a.x) (length a.values.now) c.requires.2 (stands (goal.at.fill-requires c).Start) c.requires.0
          at c.fetched_from-at.ensures a.divisor _ n _ c.number_of.ensures c.requires.1,
      search rules,
      (
        c.requires.4.0,
        all_same (length a.values.now) _ _
            (same_value a.section.now a.«from» (summary_is a.x) (length a.values.now) c.requires.2 (stands (goal.at.fill-requires c).Start) c.requires.0 at
            c.fetched_from-at.ensures a.divisor _ n _ c.number_of.ensures) ∙ c.requires.4.1,
      ),
    )

pub returns : goal.returns
returns c vs e =
    let a = c.args in
    let at : ℕ = c.fetched_from-at.result in
    let n : at + c.packed_bytes-bytes.result - at ≡ packed_bytes (length a.values.now) a.x.width = omega (arith, c.packed_bytes-bytes.ensures.0) in
    c.fill.ensures vs
    (all_same (length a.values.now) _ _
    (same_value a.section.now a.«from» (summary_is a.x) (length a.values.now) c.requires.2 (stands (goal.at.returns c).Start) c.requires.0 at
    c.fetched_from-at.ensures a.divisor _ n _ c.number_of.ensures) ∙ e)
    ∙ ap (λ (l : List ℤ). vs ++ l) (drop-length a.values.now) ∙ append-nil vs

pub overflow_add-end : goal.overflow_add-end
overflow_add-end c = omega (arith, ends c)

pub slice_bounds-fill-end : goal.slice_bounds-fill-end
slice_bounds-fill-end c = omega (arith, ends (goal.at.slice_bounds-fill-end c).After-fetched_from-at)
