-- `in_block::sparse` meets its contract. Assumes nothing.
use Rattle.format.specs.Kit.{arith}
use Rattle.in_block.proofs.Entries.{found, not_found}
use Rattle.in_block.proofs.sparse.Goals as goal

pub returns-then-w : goal.returns-then-w
returns-then-w c =
    let a = c.args in
    let w = c.halve-w in
    found a.s.now a.at a.count a.r w.result (omega arith) (w.ensures a.count (omega arith)) c.if-w.true

pub returns : goal.returns
returns c =
    let a = c.args in
    let w = c.halve-w in
    not_found a.s.now a.at a.count a.r w.result (omega arith) (w.ensures a.count (omega arith)) (omega arith)
