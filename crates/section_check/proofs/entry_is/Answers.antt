-- `section_check::entry_is` meets its contract. Assumes nothing.
use Rattle.format.specs.Kit.{sym, ◌∙◌, arith}
use Rattle.section_check.proofs.Turns.{entry_bad, entry_good}
use Rattle.section_check.proofs.Bytes.{entry_short}
use Rattle.section_check.proofs.entry_is.Goals as goal

pub returns-then-int_in-o : goal.returns-then-int_in-o
returns-then-int_in-o c =
    entry_bad _ _ _ _ _ (λ i. (c.type_inv.s i).fits) (omega arith) (omega arith) (omega arith)
    (λ x. c.if-int_in-o.true (c.int_in.ensures.0 ∙ x))

pub returns : goal.returns
returns c =
    entry_good _ _ _ _ _ (λ i. (c.type_inv.s i).fits) (omega arith) (omega arith) (omega arith) _
    (sym c.int_in.ensures.0 ∙ c.if-int_in-o.false) c.int_in-2.ensures.0

pub returns-then-s-lt8 : goal.returns-then-s-lt8
returns-then-s-lt8 c = let a = c.args in sym (entry_short _ a.s.now a.b (a.o, a.at) (omega arith))

pub returns-then-b-s : goal.returns-then-b-s
returns-then-b-s c = let a = c.args in sym (entry_short _ a.s.now a.b (a.o, a.at) (omega arith))
