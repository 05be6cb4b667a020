-- `numbers::short_in` meets its contract. Assumes nothing.
use Rattle.numbers.proofs.Shorts.{in_low, in_high}
use Rattle.numbers.proofs.short_in.Goals as goal

pub returns-in-LowFirst : goal.returns-in-LowFirst
returns-in-LowFirst c = (in_low _ 2 _ _ _ c.in-LowFirst.is c.short_at.ensures.0, c.short_at.ensures.1)

pub returns-in-HighFirst : goal.returns-in-HighFirst
returns-in-HighFirst c = (in_high _ 2 _ _ _ c.in-HighFirst.is c.rank_at.ensures.0, c.rank_at.ensures.1)
