-- `blocks::ones_from` meets its contract. Assumes nothing.
use Rattle.format.specs.Kit.{◌+◌, arith}
use Rattle.blocks.proofs.Ones.{ones_on, ones_end}
use Rattle.blocks.proofs.ones_from.Goals as goal

pub loop-i-preserved : goal.loop-i-preserved
loop-i-preserved c =
    let a = c.args in
    let l = c.loop-i in
    (omega (arith, l.invariant.0, ones_on a.s.now a.m a.n l.i a.first (omega arith), c.ones_at-sum.ensures.0), omega arith)

pub returns : goal.returns
returns c =
    let a = c.args in
    let l = c.loop-i in
    (omega (arith, l.invariant.0, ones_end a.s.now a.m a.n l.i (a.first + l.i) (omega arith)), omega arith)
