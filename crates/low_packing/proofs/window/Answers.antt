-- `low_packing::window` meets its contract. Assumes nothing.
use Rattle.low_packing.proofs.Words.{window_low}
use Rattle.low_packing.proofs.window.Goals as goal

pub returns : goal.returns
returns c =
    λ a n h.
    window_low c.args.s.now c.args.at c.args.skip a n _ (λ k. (c.type_inv.s k).fits) c.requires.0 c.requires.1 h
    c.long_at.ensures
