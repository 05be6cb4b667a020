-- `between::steps_in` meets its contract: the search on the value section answers it. Assumes nothing.
use Rattle.format.specs.Kit.{◌≡◌, refl, sym, ap, ap₂, ◌∙◌, List, none, ℕ, ◌+◌, ◌-◌, ◌/◌, ◌%◌, leb, le-leb, lt-leb, arith, ℤ, le_z, length, take, drop, eqb-true}
use Rattle.format.specs.Refusals.{done}
use Rattle.format.specs.ValueRuns.{run_length, summary_at}
use Rattle.format.specs.Editions.{Edition, runs, codec}
use Rattle.format.specs.BetweenFrom.{from_value, between_steps_from}
use Rattle.laws.proofs.Rules.{head_facts}
use Rattle.signed.specs.Sign.{biased, unbiased}
use Rattle.signed.proofs.Signs.{unbiased_biased, read_back}
use Rattle.column.specs.Opened.{column_of}
use Rattle.run_search.specs.Sought.{found_or}
use Rattle.between.proofs.Asked.{steps_none, steps_above, steps_search, ends, value_part_lem, value_length}
use Rattle.between.proofs.steps_in.Goals as goal
use Rattle.between.proofs.steps_in.Goals.{After-biased-b, After-first_from, Start}
use Rattle.std.specs.declared.option.Option as Op
use Rattle.std.specs.declared.result.Result.{Result}
use Rattle.answers.specs.declared.Refusal as Re
use Rattle.answers.specs.Replies.{between_of}
use Rattle.std.specs.Prelude.{Some, None, Ok, Err}

-- the ends in their biased forms
low_is : (c : After-biased-b) → c.biased-a.result ≡ biased c.args.low
low_is c =
    c.biased-a.ensures ∙ ap biased (read_back c.args.low c.ranges.low.sfits)

high_is : (c : After-biased-b) → c.biased-b.result ≡ biased c.args.high
high_is c =
    c.biased-b.ensures ∙ ap biased (read_back c.args.high c.ranges.high.sfits)

order : (c : After-biased-b) → let a = c.args in le_z a.low a.high ≡ leb c.biased-a.result c.biased-b.result
order c =
    ends c.args.low c.args.high c.ranges.low.sfits c.ranges.high.sfits ∙ ap₂ leb (sym (low_is c)) (sym (high_is c))

pub returns-then-b-a : goal.returns-then-b-a
returns-then-b-a c =
    let a = c.args in
    steps_none a.bytes.now (column_of a.column) a.from a.low a.high (order (goal.at.returns-then-b-a c).After-biased-b
    ∙ lt-leb c.biased-a.result c.biased-b.result c.if-b-a.true)

-- the value section, and its length
abbrev end : (s : Start) → ℕ
end s = s.args.column.start + s.args.column.head.id_bytes

abbrev section : (s : Start) → List ℕ
section s = let bytes = s.args.bytes.now in take (length bytes - end s) (drop (end s) bytes)

whole : (s : Start) → end s + s.args.column.head.value_bytes ≡ length s.args.bytes.now
whole s = eqb-true _ _ s.requires.1

pub first_from-requires : goal.first_from-requires
first_from-requires c =
    let h = (column_of c.args.column).head in (
      ap₂ (λ (ed : Edition) (v : ℕ). (codec ed).fields_ok h.count h.fields v) (sym c.requires.2)
          (value_length c.args.bytes.now (column_of c.args.column) (end (goal.at.first_from-requires c).Start) (λ j. end (goal.at.first_from-requires c).Start) c.requires.1)
          ∙ (head_facts h c.requires.0).fields,
      c.if-head-from.false,
    )

-- what the search found is the answer
said : (r : Result (Op.Option ℕ) Re.Refusal) → between_of r ≡ found_or r (done none)
said (Ok (Some i)) = refl
said (Ok None) = refl
said (Err why) = refl

answered : (c : After-first_from) → let a = c.args in
    found_or c.first_from.result (done none) ≡ between_steps_from a.bytes.now (column_of a.column) a.from a.low a.high
answered c =
    let a = c.args in
    let h = (column_of a.column).head in
    let low = ap unbiased (low_is (goal.at.After-first_from c).After-biased-b) ∙ unbiased_biased a.low c.ranges.low.sfits in
    let high = ap unbiased (high_is (goal.at.After-first_from c).After-biased-b) ∙ unbiased_biased a.high c.ranges.high.sfits in
    c.first_from.ensures
    ∙ ap₂ (λ (x y : ℤ). from_value ((codec runs).value h.count h.fields (section (goal.at.After-first_from c).Start)) (summary_at (section (goal.at.After-first_from c).Start)) x y h.count (a.from / run_length)
    (a.from % run_length)) low high
    ∙ steps_search a.bytes.now (column_of a.column) a.from a.low a.high
    (order (goal.at.After-first_from c).After-biased-b ∙ le-leb c.biased-a.result c.biased-b.result c.if-b-a.false) c.if-head-from.false c.requires.2
    (section (goal.at.After-first_from c).Start)
    (value_part_lem a.bytes.now (column_of a.column) (end (goal.at.After-first_from c).Start) (λ j. end (goal.at.After-first_from c).Start))

pub returns : goal.returns
returns c = said c.first_from.result ∙ answered c

pub returns-then-head-from : goal.returns-then-head-from
returns-then-head-from c = let a = c.args in
    steps_above a.bytes.now (column_of a.column) a.from a.low a.high c.if-head-from.true

pub overflow_add-end : goal.overflow_add-end
overflow_add-end c = omega (arith, whole (goal.at.overflow_add-end c).Start)

pub slice_bounds-first_from-count : goal.slice_bounds-first_from-count
slice_bounds-first_from-count c = omega (arith, whole (goal.at.slice_bounds-first_from-count c).Start)

pub slice_bounds-first_from-start : goal.slice_bounds-first_from-start
slice_bounds-first_from-start c = omega (arith, whole (goal.at.slice_bounds-first_from-start c).Start)
