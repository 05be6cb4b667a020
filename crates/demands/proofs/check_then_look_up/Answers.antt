-- `demands::check_then_look_up` meets its contract. Assumes nothing.
use Rattle.demands.proofs.Lists.{accepts_exactly}
use Rattle.demands.proofs.Answers.{answered}
use Rattle.demands.proofs.check_then_look_up.Goals as goal

pub returns : goal.returns
returns c =
    let a = c.args in
    let e = c.look_up-direct.ensures in
    λ n d.
    let x = (accepts_exactly a.bytes.now c.check-checked.result c.check-checked.ensures n).0 d in
    (x, λ h. (answered a.bytes.now a.id c.look_up-direct.result e.answers e.probes n x h, c.open_then_look_up-opened.ensures n x h))
