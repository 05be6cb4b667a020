use Rattle.format.specs.Kit.{◌-◌, length}
use Rattle.id_reader.proofs.Way.{Way}
use Rattle.id_reader.proofs.fill_ids.Given as goal

-- `id_reader::fill_ids` meets its contract: at each turn the runs ahead stand at the loop's place, and
-- the ids that are left to store are theirs (`Way`). Assumes nothing.
abbrev pub invariant-loop-k : goal.invariant-loop-k
invariant-loop-k l = Way l.p l.s l.initial.ids l.ids l.at l.o l.k

abbrev pub decreases-loop-k : goal.decreases-loop-k
decreases-loop-k l = length l.s - l.at
