-- `read_from::ended_after` meets its contract. Assumes nothing.
use Rattle.format.specs.Kit.{inl}
use Rattle.read_from.proofs.Replies.{end_any}
use Rattle.read_from.proofs.ended_after.Goals as goal

pub returns-then-part-gt0 : goal.returns-then-part-gt0
returns-then-part-gt0 c = (c.requires.4 c.if-part.true, inl c.if-part-gt0.true)

pub returns : goal.returns
returns c = end_any c.ended_at.result _ _ c.ended_at.ensures
