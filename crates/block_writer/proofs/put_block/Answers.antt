-- `block_writer::put_block` meets its contract. Assumes nothing.
use Rattle.block_writer.proofs.Data.{length_places, block_is}
use Rattle.format.specs.Kit.{arith}
use Rattle.format.specs.Ids.{block_bytes}
use Rattle.block_writer.proofs.put_block.Goals as goal

pub put_head-requires : goal.put_head-requires
unfolding block_bytes
put_head-requires c =
    let a = c.args in
    (omega (arith, c.requires.0.some_place, length_places a.part.now), omega arith)

pub returns : goal.returns
returns c =
    let a = c.args in
    cc (block_is a.part.now a.out.now a.p a.at)
