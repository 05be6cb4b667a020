use Rattle.format.specs.Kit.{◌≡◌, ◌*◌, ◌≤◌}
use Rattle.set_check.specs.Tally.{nothing, walked_from}
use Rattle.set_check.proofs.walk_blocks.Given as goal

-- `set_check::walk_blocks` meets its contract. Assumes nothing.
abbrev pub invariant-loop-left : goal.invariant-loop-left
invariant-loop-left l =
    (walked_from l.s l.id l.blocks 0 l.from nothing ≡ walked_from l.s l.id l.left l.least l.at l.t)
    × (l.t.count ≤ 65536 * l.least) × (l.t.below ≤ l.t.count) × (l.least ≤ 32766)

abbrev pub decreases-loop-left : goal.decreases-loop-left
decreases-loop-left l = l.left
