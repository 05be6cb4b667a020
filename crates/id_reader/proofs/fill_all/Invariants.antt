use Rattle.format.specs.Kit.{◌+◌, ◌-◌}
use Rattle.format.specs.Bytes.{count_from}
use Rattle.format.specs.Stores.{Fill}
use Rattle.id_reader.proofs.fill_all.Given as goal

-- `id_reader::fill_all` meets its contract: the ids that are left are n - i in a row. Assumes nothing.
abbrev pub invariant-loop-i : goal.invariant-loop-i
invariant-loop-i l = Fill l.initial.ids l.at (count_from l.n l.base) l.ids (l.at + l.i) (count_from (l.n - l.i) (l.base + l.i))
