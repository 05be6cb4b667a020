-- `read_from::read_up_to` meets its contract. Assumes nothing.
use Rattle.column.specs.Opened.{column_of}
use Rattle.read_from.proofs.Replies.{leaves}
use Rattle.read_from.proofs.read_up_to.Goals as goal

pub returns : goal.returns
returns c =
    let f = c.fill in
    let a = c.args in
    leaves a.bytes.now (column_of a.column) a.room a.target a.ids.now a.values.now f.result _ _ f.ensures
    c.requires.0.in_ids c.requires.0.in_values c.told.result c.told.ensures
