-- `column::head_from` meets its contract. Assumes nothing.
use Rattle.format.specs.Kit.{refl}
use Rattle.format.specs.Opening.{head_from}
use Rattle.column.proofs.head_from.Goals as goal

pub returns : goal.returns
unfolding head_from
returns c = refl
