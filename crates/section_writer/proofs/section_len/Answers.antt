-- `section_writer::section_len` meets its contract. Assumes nothing.
use Rattle.format.specs.Kit.{arith}
use Rattle.laws.proofs.Section.{length_id_section}
use Rattle.section_writer.proofs.Whole.{good}
use Rattle.section_writer.proofs.section_len.Goals as goal

pub blocks_len-requires : goal.blocks_len-requires
blocks_len-requires c = (good c.requires.0 c.requires.1, c.requires.2)

pub returns : goal.returns
returns c =
    let b = c.blocks_len.ensures in
    let j = c.jump_count.ensures in
    let l = length_id_section c.args.p c.args.ids.now (omega (arith, c.requires.2.most)) in
    (omega (arith, l, j.0 c.args.p, b.0), omega (arith, b.1, j.1))
