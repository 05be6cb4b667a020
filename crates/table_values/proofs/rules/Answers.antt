-- `table_values::rules` meets its contract: the first rule that is broken, or V. Assumes nothing.
use Rattle.format.specs.Kit.{◌≡◌, sym, ap, ◌∙◌, ℕ, ◌+◌, ◌*◌, ne_eqb, eq-eqb, le-leb, lt-leb, and-false, eqb}
use Rattle.format.specs.Bits.{packed_bytes}
use Rattle.format.specs.Table.{code_width, tabled}
use Rattle.format.specs.Editions.{codec}
use Rattle.table_values.proofs.rules.Goals as goal

pub returns-then-t : goal.returns-then-t
unfolding codec tabled
returns-then-t c n e = sym (rw (lt-leb 2 c.args.fields.divisor c.if-t.true))

pub returns-then-t-2 : goal.returns-then-t-2
unfolding codec tabled
returns-then-t-2 c n e = let f = c.args.fields in sym (rw (lt-leb f.divisor 256 c.if-t-2.true, and-false))

pub returns-then-fields-code_width : goal.returns-then-fields-code_width
unfolding codec tabled
returns-then-fields-code_width c n e =
    let f = c.args.fields in
    sym (rw (ne_eqb f.width _ (λ h. c.if-fields-code_width.true (h ∙ sym c.code_width.ensures.0)), and-false))

pub returns-then-fields-ne0 : goal.returns-then-fields-ne0
unfolding codec tabled
returns-then-fields-ne0 c n e =
    let f = c.args.fields in
    sym (rw (ne_eqb f.smallest 0 c.if-fields-ne0.true, and-false))

pub returns : goal.returns
unfolding codec tabled
returns c n e =
    let a = c.args in
    let f = a.fields in
    let w : f.width ≡ code_width f.divisor = c.if-fields-code_width.false ∙ c.code_width.ensures.0 in
    sym (rw (
      le-leb 2 f.divisor c.if-t.false,
      le-leb f.divisor 256 c.if-t-2.false,
      eq-eqb f.width _ w,
      eq-eqb f.smallest 0 c.if-fields-ne0.false,
    )
    (ap (λ (b : ℕ). eqb a.v (8 * f.divisor + b)) (ap (packed_bytes n) (sym w) ∙ sym e)))
