-- `page::runs::run_end` meets its contract. Assumes nothing.
use Rattle.format.specs.Kit.{◌≡◌, subst, arith, length}
use Rattle.page.specs.Runs.{Run}
use Rattle.page.proofs.InTurn.{run_more}
use Rattle.page.proofs.runs.run_end.Goals as goal

pub loop-e-preserved : goal.loop-e-preserved
loop-e-preserved c = run_more _ _ _ c.loop-e.invariant (omega arith) (c.follows.ensures c.if-not-follows.false)

pub returns : goal.returns
returns c =
    let a = c.args in
    let z : c.loop-e.e ≡ length a.ids.now = omega (arith, c.loop-e-test.false) in
    (c.requires, omega arith, subst (Run a.ids.now a.i) z c.loop-e.invariant)
