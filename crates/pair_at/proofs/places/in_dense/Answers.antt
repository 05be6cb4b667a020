-- `pair_at::places::in_dense` meets its contract. Assumes nothing.
use Rattle.format.specs.Kit.{ap, ℕ, ◌+◌, arith}
use Rattle.pair_at.proofs.InBlock.{places_some, dense_low_lem, dense_rest}
use Rattle.pair_at.proofs.places.in_dense.Goals as goal

pub stride_rank-rank-requires : goal.stride_rank-rank-requires
stride_rank-rank-requires c = (c.requires.0, omega (arith, c.stride_of-x.ensures.1, places_some c.args.p), omega (arith, c.requires.1))

pub returns-then-i-rank : goal.returns-then-i-rank
returns-then-i-rank c =
    dense_low_lem c.args.p c.requires.0 c.args.s.now c.args.t c.args.i c.stride_of-x.result c.stride_of-x.ensures.0 c.stride_rank-rank.result
    c.stride_rank-rank.ensures.0 c.if-i-rank.true

pub returns : goal.returns
returns c =
    dense_rest c.args.p c.requires.0 c.args.s.now c.args.t c.args.i c.stride_of-x.result c.stride_of-x.ensures.0 c.stride_rank-rank.result
    c.stride_rank-rank.ensures.0 c.if-i-rank.false _ c.longs_of.result c.in_longs.result (ap (λ (m : ℕ). c.args.t + m) c.rank_bytes.ensures.0)
    c.longs_of.ensures
    c.in_longs.ensures
