-- `block_writer::put_head` meets its contract. Assumes nothing.
use Rattle.format.specs.Kit.{refl, ◌∙◌, length, ◌-◌}
use Rattle.block_writer.proofs.Data.{head_is_is}
use Rattle.block_writer.proofs.put_head.Goals as goal

pub returns : goal.returns
returns c =
    let a = c.args in
    rw (c.put_short-2.ensures, c.put_short.ensures)
    (head_is_is a.part.now a.out.now a.at c.long.result (length a.part.now - 1) (c.long.ensures ∙ c.number_of-number.ensures.0) refl)
