-- `signalfern::look_up_layered_in` meets its contract. Assumes nothing.
use Rattle.column.specs.Opened.{column_of}
use Rattle.layered.proofs.Words.{layered_in_few}
use Rattle.signalfern.proofs.look_up_layered_in.Goals as goal

pub returns : goal.returns
returns c =
    let a = c.args in
    let l = c.look_up_layered_in in record { answers = l.ensures; words = layered_in_few a.machine.now (column_of a.machine_column) a.correction.now (column_of a.correction_column) a.id l.result l.ensures }
