-- `block_writer::put_dense` meets its contract. Assumes nothing.
use Rattle.format.specs.Kit.{◌∙◌}
use Rattle.block_writer.proofs.Ranks.{plain}
use Rattle.block_writer.proofs.put_dense.Goals as goal

pub returns-then-p-eq0 : goal.returns-then-p-eq0
returns-then-p-eq0 c =
    let a = c.args in
    c.put_words.ensures.0 ∙ plain a.part.now a.out.now a.at c.if-p-eq0.true
