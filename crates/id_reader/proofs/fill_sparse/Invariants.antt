use Rattle.format.specs.Kit.{◌+◌, ◌-◌, ◌*◌, drop}
use Rattle.format.specs.IdsRead.{shorts}
use Rattle.format.specs.Stores.{Fill}
use Rattle.id_reader.specs.Placed.{ids_from}
use Rattle.id_reader.proofs.fill_sparse.Given as goal

-- `id_reader::fill_sparse` meets its contract: the ids that are left are those of c - i shorts. Assumes nothing.
abbrev pub invariant-loop-i : goal.invariant-loop-i
invariant-loop-i l =
    Fill l.initial.ids l.at (ids_from l.base (shorts l.c (drop l.t l.s))) l.ids (l.at + l.i) (ids_from l.base (shorts (l.c - l.i) (drop (l.t + 2 * l.i) l.s)))
