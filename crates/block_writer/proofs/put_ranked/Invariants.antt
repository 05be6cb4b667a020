use Rattle.format.specs.Kit.{◌*◌}
use Rattle.block_writer.proofs.Ranks.{Ranked}
use Rattle.block_writer.proofs.put_ranked.Given as goal

-- `block_writer::put_ranked` meets its contract. The loop's invariant (`Ranked`) holds since each turn lays a rank and a stride's words
-- at their two places, and the count before the next stride is the sum of the ones laid. Assumes nothing.
abbrev pub invariant-loop-t : goal.invariant-loop-t
invariant-loop-t l = Ranked l.part l.p l.stride l.strides l.initial.out l.at l.base l.t (l.t * l.stride) l.m l.sum l.out
