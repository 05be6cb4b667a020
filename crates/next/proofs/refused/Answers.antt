-- `next::refused` meets its contract. Assumes nothing.
use Rattle.format.specs.Kit.{refl}
use Rattle.format.specs.Next.{last_after}
use Rattle.next.proofs.refused.Goals as goal

pub returns : goal.returns
unfolding last_after
returns c = λ t. (refl, refl)
