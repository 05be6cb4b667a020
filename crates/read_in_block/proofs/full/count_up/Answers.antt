-- `read_in_block::full::count_up` meets its contract. Invariant: what is left are the ids from y on. Assumes nothing.
use Rattle.format.specs.Kit.{◌≡◌, ap, ◌∙◌, suc, ◌+◌, ◌-◌, arith}
use Rattle.laws.proofs.Stores.{one_more, filled}
use Rattle.read_in_block.specs.Rows.{up_from}
use Rattle.read_in_block.proofs.Rows.{up_more, up_zero}
use Rattle.read_in_block.proofs.full.count_up.Goals as goal

pub loop-i-preserved : goal.loop-i-preserved
loop-i-preserved c =
    let l = c.loop-i in
    let e = c.args.end in
    let k : e - l.i ≡ suc (e - (l.i + 1)) = omega (arith, c.loop-i-test.true) in (
      omega (arith, l.invariant.0, c.loop-i-test.true),
      one_more _ _ _ _ _ _ l.invariant.1 _ _ (ap (up_from l.y) k ∙ up_more l.y (e - (l.i + 1))),
    )

pub returns : goal.returns
returns c =
    let l = c.loop-i in
    filled _ _ _ _ _ _ l.invariant.1 (up_zero _ _ (omega (arith, c.loop-i-test.false)))
