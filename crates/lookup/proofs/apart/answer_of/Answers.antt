-- `lookup::apart::answer_of` meets its contract. Assumes nothing.
use Rattle.format.specs.Kit.{ap, ◌∙◌, rules}
use mir.Syntax.{w64}
use mir.Facts.{to_z-of_z}
use Rattle.signed.specs.Sign.{unbiased}
use Rattle.lookup.proofs.Words.{told_found, told_absent, told_broken}
use Rattle.lookup.proofs.apart.answer_of.Goals as goal

pub returns-then-told-eq-FOUND : goal.returns-then-told-eq-FOUND
returns-then-told-eq-FOUND c n o b e =
    rw (to_z-of_z {w = w64} {z = c.unbiased.result} (search rules))
    (told_found n c.args.told.now o b e c.if-told-eq-FOUND.true c.unbiased.result
    (c.unbiased.ensures ∙ ap unbiased c.turned.ensures.0))

pub returns-then-told-eq-ABSENT : goal.returns-then-told-eq-ABSENT
returns-then-told-eq-ABSENT c n o b e = told_absent n c.args.told.now o b e c.if-told-eq-ABSENT.true

pub returns : goal.returns
returns c n o b e = (told_broken n c.args.told.now o b e c.if-told-eq-FOUND.false c.if-told-eq-ABSENT.false, tt)
