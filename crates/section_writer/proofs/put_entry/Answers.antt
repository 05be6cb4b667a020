-- `section_writer::put_entry` meets its contract. Assumes nothing.
use Rattle.section_writer.proofs.Steps.{entry_bytes_lem}
use Rattle.section_writer.proofs.put_entry.Goals as goal

pub returns : goal.returns
returns c =
    let a = c.args in
    rw (c.put_int-2.ensures, c.long-2.ensures, c.put_int.ensures, c.long.ensures)
    (entry_bytes_lem a.out.now a.at a.o a.s)
