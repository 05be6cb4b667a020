-- `run_values::rules` meets its contract. Assumes nothing.
use Rattle.format.specs.Kit.{sym, ◌∙◌, le-leb, lt-leb, eq-eqb, ne_eqb}
use Rattle.answers.specs.Replies.{fields_of}
use Rattle.laws.proofs.Editions.{runs_rules}
use Rattle.run_values.proofs.rules.Goals as goal

pub returns-then-fields-ne0 : goal.returns-then-fields-ne0
returns-then-fields-ne0 c =
    let a = c.args in
    sym (runs_rules a.n (fields_of a.fields) a.v ∙ rw (ne_eqb a.fields.width 0 c.if-fields-ne0.true))

pub returns-then-fields-ne0-2 : goal.returns-then-fields-ne0-2
returns-then-fields-ne0-2 c =
    let a = c.args in
    sym (runs_rules a.n (fields_of a.fields) a.v ∙ rw (
      eq-eqb a.fields.width 0 c.if-fields-ne0.false,
      ne_eqb a.fields.smallest 0
          c.if-fields-ne0-2.true,
    ))

pub returns-then-fields-lt1 : goal.returns-then-fields-lt1
returns-then-fields-lt1 c =
    let a = c.args in
    sym
    (runs_rules a.n (fields_of a.fields) a.v
    ∙ rw (
      eq-eqb a.fields.width 0 c.if-fields-ne0.false,
      eq-eqb a.fields.smallest 0 c.if-fields-ne0-2.false,
      lt-leb 1 a.fields.divisor
          c.if-fields-lt1.true,
    ))

pub returns : goal.returns
returns c =
    let a = c.args in
    sym
    (runs_rules a.n (fields_of a.fields) a.v
    ∙ rw (
      eq-eqb a.fields.width 0 c.if-fields-ne0.false,
      eq-eqb a.fields.smallest 0 c.if-fields-ne0-2.false,
      le-leb 1 a.fields.divisor
          c.if-fields-lt1.false,
    ))
