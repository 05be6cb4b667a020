-- `layered_page::mark` meets its contract. Assumes nothing.
use Rattle.format.specs.Kit.{sym, length-take-le, get_or-take, arith}
use Rattle.layered_page.proofs.Marked.{marks, marked}
use Rattle.layered_page.proofs.mark.Goals as goal

pub loop-i-preserved : goal.loop-i-preserved
loop-i-preserved c =
    let l = c.loop-i in
    let a = c.args in
    marks _ l.invariant _ _ _ (omega (arith, c.loop-i-test.true, length-take-le a.n a.kinds.now c.requires.1))
    (sym (get_or-take a.n a.kinds.now l.i 0 c.loop-i-test.true)) c.column_by.ensures c.either-some.ensures

pub returns : goal.returns
returns c =
    let a = c.args in
    marked _ c.loop-i.invariant (omega (arith, c.loop-i-test.false, length-take-le a.n a.kinds.now c.requires.1))
