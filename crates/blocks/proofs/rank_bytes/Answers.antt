-- `blocks::rank_bytes` meets its contract. Assumes nothing.
use Rattle.format.specs.Kit.{arith, sym}
use Rattle.laws.proofs.Sizes.{ranks_none, rank_some, rank_max}
use Rattle.blocks.proofs.rank_bytes.Goals as goal

pub returns-then-p-eq0 : goal.returns-then-p-eq0
returns-then-p-eq0 c = let e = ranks_none _ c.if-p-eq0.true in (sym e, omega arith)

pub returns-else-p-eq0 : goal.returns-else-p-eq0
returns-else-p-eq0 c =
    let e = rank_some c.args.p c.requires c.if-p-eq0.false in
    (omega (arith, e), omega (arith, e, rank_max c.args.p c.requires))
