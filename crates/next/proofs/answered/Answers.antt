-- `next::answered` meets its contract. Assumes nothing.
use Rattle.format.specs.Kit.{refl}
use Rattle.format.specs.Next.{last_after}
use Rattle.next.proofs.answered.Goals as goal

pub returns-in-Ok : goal.returns-in-Ok
unfolding last_after
returns-in-Ok c = rw c.in-Ok.is (refl, c.from.ensures)

pub returns-in-Err : goal.returns-in-Err
returns-in-Err c = rw c.in-Err.is (c.refused.ensures c.args.target)
