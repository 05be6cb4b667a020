use Rattle.format.specs.Kit.{◌≡◌, ◌+◌, ◌-◌}
use Rattle.format.specs.Stores.{Fill}
use Rattle.read_in_block.specs.Rows.{up_from}
use Rattle.read_in_block.proofs.full.count_up.Given as goal

-- `read_in_block::full::count_up` meets its contract. Invariant: what is left are the ids from y on. Assumes nothing.
abbrev pub invariant-loop-i : goal.invariant-loop-i
invariant-loop-i l =
    (l.y + (l.end - l.i) ≡ l.id + (l.end - l.from)) × Fill l.initial.ids l.from (up_from l.id (l.end - l.from)) l.ids l.i (up_from l.y (l.end - l.i))
