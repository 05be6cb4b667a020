-- `section_writer::runs::searched` meets its contract: behind as many ids as a block has places none is in it, nor behind one of another block.
use Rattle.format.specs.Kit.{arith, ◌∙◌}
use Rattle.section_writer.proofs.FirstRun.{after_most, after_few}
use Rattle.section_writer.proofs.runs.searched.Goals as goal

pub returns-then-number_of-b : goal.returns-then-number_of-b
returns-then-number_of-b c =
    let a = c.args in
    (omega arith, after_most a.ids.now a.b c.requires.1 c.requires.0 c.requires.2 c.min-most.result c.min-most.ensures)

pub returns : goal.returns
returns c =
    let a = c.args in (
      omega arith,
      after_few a.ids.now a.b c.requires.1 c.requires.0 c.requires.2 c.min-few.result (omega arith)
          (λ q. c.if-number_of-b.false (c.number_of.ensures.0 ∙ q)),
    )
