-- `run_search::passed_by` meets its contract. Assumes nothing.
use Rattle.format.specs.Kit.{sym, lt-ltb, le-ltb}
use Rattle.run_search.proofs.Ordered.{lt_Z_unbiased}
use Rattle.run_search.proofs.passed_by.Goals as goal

pub returns-then-high-x : goal.returns-then-high-x
returns-then-high-x c =
    let a = c.args in
    rw (lt_Z_unbiased a.high a.x.smallest, lt-ltb a.high a.x.smallest c.if-high-x.true)

pub returns : goal.returns
returns c =
    let a = c.args in
    rw (lt_Z_unbiased a.high a.x.smallest, le-ltb a.high a.x.smallest c.if-high-x.false) (sym (lt_Z_unbiased a.x.greatest a.low))
