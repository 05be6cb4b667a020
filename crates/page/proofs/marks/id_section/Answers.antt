-- `page::marks::id_section` meets its contract. Assumes nothing.
use Rattle.format.specs.Kit.{sym, eqb-true}
use Rattle.column.specs.Opened.{column_of}
use Rattle.lookup.proofs.Whole.{Parted, id_part_lem}
use Rattle.page.proofs.marks.id_section.Goals as goal
use Rattle.page.proofs.marks.id_section.Goals.{After-size}

parted : (c : After-size) → let a = c.args in
    Parted a.bytes.now (column_of a.column) c.size-start.result c.size.result
parted c = record { starts = c.size-start.ensures; ids = c.size.ensures; whole = eqb-true _ _ c.requires.1 }

pub returns : goal.returns
returns c = sym (id_part_lem (parted (goal.at.returns c).After-size))
