-- `read_from::read_steps` meets its contract. Assumes nothing.
use Rattle.format.specs.Kit.{arith}
use Rattle.read_from.proofs.read_steps.Goals as goal

pub read_up_to-requires : goal.read_up_to-requires
read_up_to-requires c =
    let p = c.requires in
    let e = c.min-room.ensures in
    (record { rules = p.0; whole = p.1; in_ids = omega (arith, e); in_values = omega (arith, e) }, p.2)

pub returns : goal.returns
returns c = rw (← c.min-room.ensures) c.read_up_to.ensures
