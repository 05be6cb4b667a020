-- `between::first_between_from_in` meets its contract. Assumes nothing.
use Rattle.format.specs.Kit.{◌≡◌, sym, ap₂, ◌∙◌, true, ℤ, arith}
use Rattle.format.specs.Editions.{runs, number_of}
use Rattle.format.specs.Opening.{head_ok, length_ok}
use Rattle.format.specs.BetweenFrom.{between_steps_from}
use Rattle.laws.proofs.Editions.{one_number}
use Rattle.signed.proofs.Signs.{read_back}
use Rattle.values.specs.Edition.{edition_of}
use Rattle.column.specs.Opened.{column_of}
use Rattle.between.proofs.Asked.{in_other, in_header, in_length, in_steps}
use Rattle.between.proofs.first_between_from_in.Goals as goal
use Rattle.between.proofs.first_between_from_in.Goals.{Else-not-head_ok, Else-not-length_ok, Else-number_of-ne-RUNS}

numbered : (c : Else-number_of-ne-RUNS) → number_of (edition_of c.args.column.head.edition) ≡ 3
numbered c = omega (arith, c.number_of.ensures, c.if-number_of-ne-RUNS.false)

the_rules : (c : Else-not-head_ok) → head_ok (column_of c.args.column).head ≡ true
the_rules c = sym c.head_ok.ensures ∙ c.if-not-head_ok.false

whole : (c : Else-not-length_ok) → let a = c.args in length_ok a.bytes.now (column_of a.column)
    ≡ true
whole c = sym c.length_ok.ensures ∙ c.if-not-length_ok.false

pub returns-then-number_of-ne-RUNS : goal.returns-then-number_of-ne-RUNS
returns-then-number_of-ne-RUNS c =
    let a = c.args in
    in_other a.bytes.now (column_of a.column) a.from a.low a.high (λ e. omega (arith, c.number_of.ensures, c.if-number_of-ne-RUNS.true, e))

pub returns-then-not-head_ok : goal.returns-then-not-head_ok
returns-then-not-head_ok c =
    let a = c.args in
    in_header a.bytes.now (column_of a.column) a.from a.low a.high (numbered (goal.at.returns-then-not-head_ok c).Else-number_of-ne-RUNS) (sym c.head_ok.ensures ∙ c.if-not-head_ok.true)

pub returns-then-not-length_ok : goal.returns-then-not-length_ok
returns-then-not-length_ok c =
    let a = c.args in
    in_length a.bytes.now (column_of a.column) a.from a.low a.high (numbered (goal.at.returns-then-not-length_ok c).Else-number_of-ne-RUNS) (the_rules (goal.at.returns-then-not-length_ok c).Else-not-head_ok)
    (sym c.length_ok.ensures ∙ c.if-not-length_ok.true)

pub steps_in-requires : goal.steps_in-requires
unfolding number_of
steps_in-requires c = (the_rules (goal.at.steps_in-requires c).Else-not-head_ok, whole c, one_number _ runs (numbered (goal.at.steps_in-requires c).Else-number_of-ne-RUNS))

pub returns : goal.returns
returns c =
    let a = c.args in
    c.steps_in.ensures
    ∙ ap₂ (λ (x y : ℤ). between_steps_from a.bytes.now (column_of a.column) a.from x y) (read_back a.low c.ranges.low.sfits)
    (read_back a.high c.ranges.high.sfits)
    ∙ in_steps a.bytes.now (column_of a.column) a.from a.low a.high (numbered (goal.at.returns c).Else-number_of-ne-RUNS) (the_rules (goal.at.returns c).Else-not-head_ok) (whole (goal.at.returns c).Else-not-length_ok)
