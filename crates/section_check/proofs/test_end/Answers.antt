-- `section_check::test_end` meets its contract. Assumes nothing.
use Rattle.format.specs.Kit.{sym, ◌∙◌, arith}
use Rattle.section_check.proofs.Turns.{end_cut, end_count, end_place, end_good}
use Rattle.section_check.proofs.test_end.Goals as goal

pub returns-then-short_in-ne0 : goal.returns-then-short_in-ne0
returns-then-short_in-ne0 c =
    end_count _ _ _ (λ i. (c.type_inv.s i).fits) (omega arith) c.requires.1 (λ x. c.if-short_in-ne0.true (c.short_in.ensures.0 ∙ x))

pub returns-then-short_in-ne65535 : goal.returns-then-short_in-ne65535
returns-then-short_in-ne65535 c =
    end_place _ _ _ (λ i. (c.type_inv.s i).fits) (omega arith) c.requires.1
    (sym c.short_in.ensures.0 ∙ c.if-short_in-ne0.false) (λ x. c.if-short_in-ne65535.true (c.short_in-2.ensures.0 ∙ x))

pub returns : goal.returns
returns c =
    end_good _ _ _ (λ i. (c.type_inv.s i).fits) (omega arith) c.requires.1
    (sym c.short_in.ensures.0 ∙ c.if-short_in-ne0.false) (sym c.short_in-2.ensures.0 ∙ c.if-short_in-ne65535.false)

pub returns-then-s-at-lt6 : goal.returns-then-s-at-lt6
returns-then-s-at-lt6 c = end_cut _ _ _ (omega arith)
