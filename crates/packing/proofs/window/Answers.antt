-- `packing::window` meets its contract. Assumes nothing.
use Rattle.packing.proofs.Join.{window_is}
use Rattle.packing.proofs.window.Goals as goal

pub returns : goal.returns
returns c =
    λ a n h. window_is c.args.s.now c.args.at c.args.skip a n _ c.requires.1 h c.eight_at.ensures
