-- `section_writer::put_end` meets its contract. Assumes nothing.
use Rattle.section_writer.proofs.Steps.{end_bytes}
use Rattle.section_writer.proofs.put_end.Goals as goal

pub returns : goal.returns
returns c =
    let a = c.args in
    rw (c.put_int.ensures, c.put_short.ensures) (end_bytes a.out.now a.at)
