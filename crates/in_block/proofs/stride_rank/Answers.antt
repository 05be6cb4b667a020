-- `in_block::stride_rank` meets its contract. Assumes nothing.
use Rattle.format.specs.Kit.{sym, ◌∙◌, ◌+◌, ◌*◌, ◌/◌, ◌^◌, ◌≤◌, arith}
use Rattle.format.specs.Ids.{rank_bytes}
use Rattle.in_block.proofs.Strides.{rank_none, rank_some, entry_in}
use Rattle.in_block.proofs.stride_rank.Goals as goal
use Rattle.in_block.proofs.stride_rank.Goals.{Else-p-eq0}

-- the entry of the place's stride stands in the table
entry : (c : Else-p-eq0) → let a = c.args in 2 * (a.r / 2 ^ a.p) + 2 ≤ rank_bytes a.p
entry c = entry_in c.args.p c.args.r c.requires.0 c.if-p-eq0.false c.requires.1

pub returns-then-p-eq0 : goal.returns-then-p-eq0
returns-then-p-eq0 c = (sym (rank_none _ _ _ _ c.if-p-eq0.true), omega arith)

pub rank_at-requires : goal.rank_at-requires
rank_at-requires c = omega (arith, entry c)

pub returns : goal.returns
returns c = (c.rank_at.ensures.0 ∙ sym (rank_some _ _ _ _ c.if-p-eq0.false), c.rank_at.ensures.1)
