-- `boundary::layers::put_on_top` meets its contract. Assumes nothing.
use Rattle.boundary.proofs.Layering.{on_top_told}
use Rattle.boundary.proofs.layers.put_on_top.Goals as goal

pub returns : goal.returns
returns c n above below e z = on_top_told _ n above below e z
