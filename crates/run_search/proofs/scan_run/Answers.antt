-- `run_search::scan_run` meets its contract. The loop's invariant: what is left of the scan from value k on gives what the whole gives.
use Rattle.format.specs.Kit.{◌≡◌, refl, sym, ap, ap₂, ◌∙◌, Option, some, ℕ, ◌+◌, ◌-◌, ◌*◌, ◌<◌, min, arith, length, drop}
use Rattle.format.specs.Refusals.{Outcome}
use Rattle.format.specs.ValueRuns.{run_length, Summary, in_run}
use Rattle.format.specs.Editions.{runs, codec}
use Rattle.format.specs.FirstBetween.{between, scan_from}
use Rattle.answers.specs.Replies.{fields_of, fetched_of}
use Rattle.laws.proofs.Fits.{fits_size}
use Rattle.laws.proofs.Editions.{lawful, value_in}
use Rattle.signed.specs.Sign.{unbiased}
use Rattle.signed.proofs.Signs.{read_back}
use Rattle.scaled_values.specs.Slots.{slot_value}
use Rattle.run_values.proofs.Reached.{Rules, rules_kept}
use Rattle.run_search.proofs.Left.{scan_broken, scan_here, scan_on, scan_end}
use Rattle.run_search.proofs.scan_run.Goals as goal
use Rattle.run_search.proofs.scan_run.Goals.{After-value_of, After-within, At-loop-k, In-loop-k, Start}

the_rules : (s : Start) → Rules s.args.n (fields_of s.args.fields) (length s.args.section.now)
the_rules s = rules_kept _ _ _ s.requires.0

pub loop-k-init : goal.loop-k-init
loop-k-init c = λ more. refl

short : (c : In-loop-k) → c.loop-k.k < run_length
short c = omega (arith, c.loop-k-test.true, c.count_in-count.ensures)

pub slot_in-slot-requires : goal.slot_in-slot-requires
slot_in-slot-requires c =
    (omega (arith, (the_rules (goal.at.slot_in-slot-requires c).Start).directory, c.directory_length-start.ensures), short c)

-- step 7 of the ordinal
value : (c : After-value_of) → let a = c.args in
    fetched_of c.value_of.result ≡ (codec runs).value a.n (fields_of a.fields) a.section.now (run_length * a.r + c.loop-k.k)
value c =
    let a = c.args in
    c.value_of.ensures ∙ ap (slot_value a.fields.divisor c.slot_in-slot.result) c.number_in-stored.ensures
    ∙ c.slot_in-slot.ensures.1 a.fields.divisor
    ∙ ap₂ (λ (d : ℕ) (y : Summary). in_run a.fields.divisor (drop d a.section.now) y c.loop-k.k) c.directory_length-start.ensures
    c.requires.2
    ∙ value_in a.n (fields_of a.fields) a.section.now a.r c.loop-k.k (short (goal.at.After-value_of c).In-loop-k)

-- what is left is the whole
whole : (l : At-loop-k) (more : Outcome (Option ℕ)) → let a = l.args in
    scan_from ((codec runs).value a.n (fields_of a.fields) a.section.now) (unbiased a.low) (unbiased a.high)
    (l.count_in-count.result - l.loop-k.k) (run_length * a.r + l.loop-k.k) more
    ≡ scan_from ((codec runs).value a.n (fields_of a.fields) a.section.now) (unbiased a.low) (unbiased a.high)
    (min run_length (a.n - run_length * a.r) - a.from) (run_length * a.r + a.from) more
whole l more =
    let a = l.args in
    sym (l.loop-k.invariant more)
    ∙ ap (λ (c : ℕ). scan_from ((codec runs).value a.n (fields_of a.fields) a.section.now) (unbiased a.low) (unbiased a.high) (c - a.from)
    (run_length * a.r + a.from) more)
    l.count_in-count.ensures

pub returns-in_default : goal.returns-in_default
returns-in_default c =
    let a = c.args in
    let e = sym (value (goal.at.returns-in_default c).After-value_of) ∙ ap fetched_of c.in_default.is in
    λ more. scan_broken _ (unbiased a.low) (unbiased a.high) c.count_in-count.result (run_length * a.r) c.loop-k.k more
    c.loop-k-test.true e ∙ whole (goal.at.returns-in_default c).At-loop-k more

pub overflow_add-result : goal.overflow_add-result
overflow_add-result c =
    omega (
      arith,
      c.count_in-count.ensures,
      c.loop-k-test.true,
      c.requires.1,
    )

-- a value that is there, and whether it is in the range
there : (c : After-within) → let a =
    c.args in
    (codec runs).value a.n (fields_of a.fields) a.section.now (run_length * a.r + c.loop-k.k) ≡ some c.in-Some.v
there c = sym (value (goal.at.After-within c).After-value_of) ∙ ap fetched_of c.in-Some.is

tested : (c : After-within) →
    let a = c.args in
    c.within.result ≡ between (unbiased a.low) (unbiased a.high) c.in-Some.v
tested c =
    let a = c.args in
    let v = c.in-Some.v in
    c.within.ensures
    ∙ ap (between (unbiased a.low) (unbiased a.high)) (read_back v (fits_size v ((lawful runs).fit _ _ _ _ v (there c))))

pub returns-then-within : goal.returns-then-within
returns-then-within c =
    let a = c.args in
    λ more. scan_here _ (unbiased a.low) (unbiased a.high) c.count_in-count.result (run_length * a.r) c.loop-k.k more
    c.loop-k-test.true _ (there (goal.at.returns-then-within c).After-within) (sym (tested (goal.at.returns-then-within c).After-within) ∙ c.if-within.true) ∙ whole (goal.at.returns-then-within c).At-loop-k more

pub loop-k-preserved : goal.loop-k-preserved
loop-k-preserved c =
    let a = c.args in
    let t = c.loop-k-test.true in
    λ more. c.loop-k.invariant more
    ∙ scan_on _ (unbiased a.low) (unbiased a.high) c.count_in-count.result (run_length * a.r) c.loop-k.k more t _ (there (goal.at.loop-k-preserved c).After-within)
    (sym (tested (goal.at.loop-k-preserved c).After-within) ∙ c.if-within.false)

pub returns : goal.returns
returns c =
    let a = c.args in
    λ more. scan_end _ (unbiased a.low) (unbiased a.high) c.count_in-count.result (run_length * a.r) c.loop-k.k more c.loop-k-test.false
    ∙ whole (goal.at.returns c).At-loop-k more

pub overflow_mul-first : goal.overflow_mul-first
overflow_mul-first c = omega (arith, c.requires.1)

pub count_in-count-requires : goal.count_in-count-requires
count_in-count-requires c = omega (arith, c.requires.1)

pub number_in-stored-requires : goal.number_in-stored-requires
number_in-stored-requires c = c.slot_in-slot.ensures.0

pub value_of-requires : goal.value_of-requires
value_of-requires c = (the_rules (goal.at.value_of-requires c).Start).positive
