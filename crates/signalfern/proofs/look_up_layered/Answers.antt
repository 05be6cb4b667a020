-- `signalfern::look_up_layered` meets its contract. Assumes nothing.
use Rattle.layered.proofs.Words.{layered_few}
use Rattle.signalfern.proofs.look_up_layered.Goals as goal

pub returns : goal.returns
returns c =
    let a = c.args in
    let l = c.look_up_layered in
    record { answers = l.ensures; words = layered_few a.machine.now a.correction.now a.id l.result l.ensures }
