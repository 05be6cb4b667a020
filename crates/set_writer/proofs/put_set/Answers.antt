-- `set_writer::put_set` meets its contract. Assumes nothing.
use Rattle.format.specs.Kit.{arith}
use Rattle.set_writer.proofs.Whole.{whole_long, put_whole}
use Rattle.set_writer.proofs.put_set.Goals as goal

pub put_number-at-requires : goal.put_number-at-requires
put_number-at-requires c =
    omega (arith, c.requires.2, whole_long c.args.ids.now c.args.blocks c.requires.1)

pub put_blocks-requires : goal.put_blocks-requires
put_blocks-requires c =
    let n = c.put_number-at in
    (c.requires.0, omega (arith, c.requires.2, n.ensures.0, n.auto.out, whole_long c.args.ids.now c.args.blocks c.requires.1))

pub returns : goal.returns
returns c =
    let a = c.args in
    let e = put_whole a.ids.now a.blocks c.requires.1 a.out.now c.put_number-at.result c.put_number-at.ensures.0 in
    cc (e, c.put_number-at.ensures.1, c.put_blocks.ensures)
