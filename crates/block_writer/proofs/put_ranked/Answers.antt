-- `block_writer::put_ranked` meets its contract. Assumes nothing.
use Rattle.format.specs.Kit.{arith, refl, zero-mul}
use Rattle.block_writer.proofs.Ranks.{strides_are, none, strided, end}
use Rattle.block_writer.proofs.put_ranked.Goals as goal

pub loop-t-init : goal.loop-t-init
loop-t-init c =
    rw zero-mul (none (strides_are c.requires.1 c.requires.2 c.stride-stride.ensures.0 c.strides-strides.ensures.0) refl c.requires.0)

pub loop-t-preserved : goal.loop-t-preserved
loop-t-preserved c =
    let w = c.put_words-laid in
    let r = c.put_rank in
    strided c.loop-t.invariant c.loop-t-test.true r.ensures r.auto.out
    w.ensures.0 w.auto.out w.ensures.1 w.ensures.2 w.ensures.3

pub returns : goal.returns
returns c = end c.loop-t.invariant (omega arith)
