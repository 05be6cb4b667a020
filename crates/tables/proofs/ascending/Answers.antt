-- `tables::ascending` meets its contract: each entry and the next are in order exactly if all are. Assumes nothing.
use Rattle.std.proofs.lemmas.Fn.{always_returns_same}
use Rattle.format.specs.Kit.{lt_z, rules}
use Rattle.tables.proofs.Placed.{ascends_pairs}
use Rattle.tables.proofs.ascending.Goals as goal

pub returns : goal.returns
returns c = ascends_pairs _ _ (c.is_sorted_by.ensures.cases lt_z (always_returns_same _ _ _ (λ a r f k. search rules)))
