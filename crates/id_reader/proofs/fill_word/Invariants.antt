use Rattle.format.specs.Kit.{◌^◌, ◌<◌}
use Rattle.format.specs.IdsRead.{set_bits}
use Rattle.format.specs.Stores.{Fill}
use Rattle.id_reader.proofs.fill_word.Given as goal

-- `id_reader::fill_word` meets its contract: a turn takes the lowest set bit away. Assumes nothing.
abbrev pub invariant-loop-left : goal.invariant-loop-left
invariant-loop-left l = (l.left < 2 ^ 64) × Fill l.initial.ids l.at (set_bits 64 l.first l.word) l.ids l.o (set_bits 64 l.first l.left)

abbrev pub decreases-loop-left : goal.decreases-loop-left
decreases-loop-left l = l.left
