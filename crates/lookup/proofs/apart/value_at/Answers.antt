-- `lookup::apart::value_at` meets its contract. Assumes nothing.
use Rattle.values.specs.Edition.{edition_of}
use Rattle.column.specs.Opened.{column_of}
use Rattle.answers.specs.Words.{laid_out}
use Rattle.lookup.proofs.Words.{slot_asked, value_told}
use Rattle.lookup.proofs.apart.value_at.Goals as goal

pub slot_of-slot-requires : goal.slot_of-slot-requires
slot_of-slot-requires c =
    let a = c.args in
    slot_asked a.bytes.now (laid_out (edition_of a.edition) a.words.now) (column_of c.laid-column.result) a.end a.i c.laid-column.ensures c.requires

pub returns : goal.returns
returns c =
    let a = c.args in
    value_told a.bytes.now (laid_out (edition_of a.edition) a.words.now) (column_of c.laid-column.result) a.end a.i c.laid-column.ensures c.requires
    c.slot_of-slot.result c.number_in-stored.result c.value_of.result c.slot_of-slot.ensures c.number_in-stored.ensures c.value_of.ensures
