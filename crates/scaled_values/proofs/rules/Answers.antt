-- `scaled_values::rules` meets its contract. Assumes nothing.
use Rattle.format.specs.Kit.{sym, ap, ◌∙◌, and-false, eqb, le-leb, lt-leb}
use Rattle.answers.specs.Replies.{fields_of}
use Rattle.laws.proofs.Cases.{false_true}
use Rattle.laws.proofs.Scaled.{scaled_rules}
use Rattle.packings.specs.Packings.{packing_of}
use Rattle.scaled_values.proofs.rules.Goals as goal
use Rattle.scaled_values.proofs.rules.Goals.{then-fields-ge1, else-fields-ge1}

pub returns-then-width_ok : goal.returns-then-width_ok
returns-then-width_ok c n e =
    let a = c.args in
    elim c.if-fields-ge1.branch [
      | then-fields-ge1 w ↦ sym
          (scaled_rules (packing_of a.order) n (fields_of a.fields) a.v
          ∙ rw (sym w.width_ok.ensures ∙ sym w.value-is ∙ c.if-width_ok.true, le-leb 1 a.fields.divisor w.if-fields-ge1.true)
          (ap (eqb a.v) (sym e)))
      | else-fields-ge1 w ↦ false_true (sym (lt-leb 1 a.fields.divisor w.if-fields-ge1.false) ∙ sym w.value-is ∙ c.if-width_ok.true)
    ]

pub returns-else-width_ok : goal.returns-else-width_ok
returns-else-width_ok c n e =
    let a = c.args in
    elim c.if-fields-ge1.branch [
      | then-fields-ge1 w ↦ c.if-width_ok.false
          ∙ sym (scaled_rules (packing_of a.order) n (fields_of a.fields) a.v ∙ rw (sym w.width_ok.ensures ∙ sym w.value-is ∙ c.if-width_ok.false))
      | else-fields-ge1 w ↦ c.if-width_ok.false
          ∙ sym (scaled_rules (packing_of a.order) n (fields_of a.fields) a.v ∙ rw (lt-leb 1 a.fields.divisor w.if-fields-ge1.false, and-false))
    ]
