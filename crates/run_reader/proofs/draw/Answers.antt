-- `run_reader::draw` meets its contract: the values of a run are those of its ordinals. Assumes nothing.
use Rattle.format.specs.Kit.{◌≡◌, refl, sym, ap, ◌∙◌, Option, List, ℕ, ◌+◌, ◌-◌, ◌*◌, ◌/◌, ◌%◌, ◌≤◌, ◌<◌, arith, ℤ, length, drop, sets}
use Rattle.format.specs.ValueRuns.{run_length, directory_length, in_run}
use Rattle.format.specs.Editions.{runs, codec}
use Rattle.format.specs.Drawn.{drawn}
use Rattle.format.specs.Stores.{Fill}
use Rattle.answers.specs.Replies.{fields_of}
use Rattle.laws.proofs.Stores.{begun, part_more}
use Rattle.laws.proofs.Drawn.{drawn_most}
use Rattle.laws.proofs.Editions.{value_in}
use Rattle.run_values.specs.Summaries.{summary_is}
use Rattle.run_values.proofs.Reached.{Rules, rules_kept}
use Rattle.run_reader.proofs.Rest.{drawn_same, drawn_rest}
use Rattle.run_reader.proofs.draw.Goals as goal
use Rattle.run_reader.proofs.draw.Goals.{After-min, Else-from-end, Start}

the_rules : (s : Start) → Rules s.args.n (fields_of s.args.fields) (length s.args.section.now)
the_rules s = rules_kept _ _ _ s.requires.1

-- what an ordinal's value is
abbrev value : Start → ℕ → Option ℤ
value s = let a = s.args in (codec runs).value a.n (fields_of a.fields) a.section.now

-- nothing was drawn
none_drawn : (s : Start) → let a = s.args in (a.from ≤ a.from) × (a.from ≤ a.end)
    × Fill a.values.now a.from (drawn (value s) (a.end - a.from) a.x) a.values.now a.from
    (drawn (value s) (a.end - a.from) (a.x + (a.from - a.from)))
none_drawn s =
    let a = s.args in
    let z : a.x + (a.from - a.from) ≡ a.x = omega arith in
    (omega arith, s.requires.3, begun _ _ _ _ (rw z refl))

-- the ordinal is one of the n, and its run is there
there : (c : Else-from-end) → let a = c.args in (a.x < a.n) × (25 * (a.x / 16384) + 25 ≤ directory_length a.n)
there c =
    let l : c.args.x < c.args.n = omega (arith, c.requires.2, c.requires.3, c.if-from-end.false) in
    (l, omega (arith, l))

-- how far the run goes
asked : (c : After-min) → let a = c.args in
    let last = a.from + c.min.result in
    (0 < c.count_in-count.result) × (c.count_in-count.result ≤ run_length)
    × (a.from ≤ last) × (last ≤ a.end) × (a.x % 16384 + (last - a.from) ≤ c.count_in-count.result)
asked c =
    let t = there (goal.at.After-min c).Else-from-end in (
      omega (arith, c.count_in-count.ensures, t.0),
      omega (arith, c.count_in-count.ensures),
      omega arith,
      omega (arith, c.min.ensures, c.requires.3),
      omega (arith, c.min.ensures, c.count_in-count.ensures, t.0),
    )

pub draw_run-requires : goal.draw_run-requires
draw_run-requires c =
    let r = the_rules (goal.at.draw_run-requires c).Start in
    let k = asked (goal.at.draw_run-requires c).After-min in (
      omega (arith, r.directory, c.directory_length-directory.ensures),
      omega (arith, r.positive),
      k.0,
      k.1,
      k.4,
      k.2,
      omega (arith, k.3, c.requires.4),
      sym c.reaches.ensures ∙ c.if-not-reaches.false,
    )

pub returns : goal.returns
returns c =
    let a = c.args in
    let k = asked (goal.at.returns c).After-min in
    let last : ℕ = a.from + c.min.result in
    let r : ℕ = a.x / 16384 in
    let e1 = ap (λ (y : ℕ). in_run a.fields.divisor (drop y a.section.now) (summary_is c.summary_at-summary.result)) c.directory_length-directory.ensures in
    let e2 = ap (in_run a.fields.divisor (drop (directory_length a.n) a.section.now)) c.summary_at-summary.ensures.0 in
    let e = ap (λ (f : ℕ → Option ℤ). drawn f (last - a.from) (a.x % 16384)) (e1 ∙ e2)
    ∙ drawn_same _ (value (goal.at.returns c).Start) (last - a.from) (a.x % 16384) a.x (λ j l.
    let o : run_length * r + (a.x % 16384 + j) ≡ a.x + j = omega arith in
    value_in a.n (fields_of a.fields) a.section.now r (a.x % 16384 + j) (omega (arith, l, k.4, k.1)) ∙ ap (value (goal.at.returns c).Start) o) in
    let ds : List ℤ = drawn (value (goal.at.returns c).Start) (last - a.from) a.x in
    let en : c.draw_run.result ≡ a.from + length ds = c.draw_run.ensures.0 ∙ ap (λ (vs : List ℤ). a.from + length vs) e in
    let ev : c.draw_run.new.values ≡ sets a.values.now a.from ds = c.draw_run.ensures.1 ∙ ap (sets a.values.now a.from) e in
    let most = drawn_most (value (goal.at.returns c).Start) (last - a.from) a.x in
    let left : a.end - a.from - length ds ≡ a.end - c.draw_run.result = omega (arith, en) in
    let from : a.x + length ds ≡ a.x + (c.draw_run.result - a.from) = omega (arith, en) in
    let rest = drawn_rest (value (goal.at.returns c).Start) (last - a.from) (a.end - a.from) a.x (omega (arith, k.3)) in (
      omega (arith, en),
      omega (arith, en, most, k.2, k.3),
      part_more _ _ _ _ _ _ (begun a.values.now a.from _ _ refl) _ _ ds _ (rw (left, from) at rest) ev en,
    )

pub returns-then-from-end : goal.returns-then-from-end
returns-then-from-end c = none_drawn (goal.at.returns-then-from-end c).Start

pub summary_at-summary-requires : goal.summary_at-summary-requires
summary_at-summary-requires c = omega (arith, (there c).1, (the_rules (goal.at.summary_at-summary-requires c).Start).directory)

pub count_in-count-requires : goal.count_in-count-requires
count_in-count-requires c = omega (arith, (there (goal.at.count_in-count-requires c).Else-from-end).0)

pub overflow_sub-room : goal.overflow_sub-room
overflow_sub-room c = omega (arith, c.directory_length-directory.ensures, (the_rules (goal.at.overflow_sub-room c).Start).directory)

pub overflow_sub-count : goal.overflow_sub-count
overflow_sub-count c = omega (arith, c.count_in-count.ensures, (there (goal.at.overflow_sub-count c).Else-from-end).0)

pub reaches-requires : goal.reaches-requires
reaches-requires c = omega (arith, c.count_in-count.ensures, (there (goal.at.reaches-requires c).Else-from-end).0)

pub returns-then-not-reaches : goal.returns-then-not-reaches
returns-then-not-reaches c = none_drawn (goal.at.returns-then-not-reaches c).Start

pub overflow_sub-count-2 : goal.overflow_sub-count-2
overflow_sub-count-2 c = omega (arith, c.count_in-count.ensures, (there (goal.at.overflow_sub-count-2 c).Else-from-end).0)

pub overflow_add-last : goal.overflow_add-last
overflow_add-last c = omega (arith, (asked c).3, c.requires.4)
