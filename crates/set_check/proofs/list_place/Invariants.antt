use Rattle.format.specs.Kit.{◌+◌, ◌||◌, ◌≡◌, ◌≤◌, drop}
use Rattle.format.specs.Ids.{count_below}
use Rattle.format.specs.IdsRead.{shorts}
use Rattle.format.specs.Walk.{listed}
use Rattle.set_check.proofs.Turns.{rest_of}
use Rattle.set_check.proofs.list_place.Given as goal

-- `set_check::list_place` meets its contract. Assumes nothing.
abbrev pub invariant-loop-i : goal.invariant-loop-i
invariant-loop-i l =
    (l.below + count_below l.r (rest_of l.s l.at l.c l.i) ≡ count_below l.r (shorts l.c (drop l.at l.s)))
    × ((l.there || listed l.r (rest_of l.s l.at l.c l.i)) ≡ listed l.r (shorts l.c (drop l.at l.s)))
    × (l.below ≤ l.i) × (l.i ≤ l.c)
