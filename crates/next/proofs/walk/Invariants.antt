use Rattle.format.specs.Kit.{◌-◌, ◌≤◌, ◌<◌}
use Rattle.next.proofs.Turns.{Left}
use Rattle.next.proofs.walk.Given as goal

-- `next::walk` meets its contract. Invariant: the ids from place r of block b on are left. Assumes nothing.
abbrev pub invariant-loop-b : goal.invariant-loop-b
invariant-loop-b l = Left l.s l.q l.b l.r × (l.r < 65536) × (l.b ≤ 32766)

abbrev pub decreases-loop-b : goal.decreases-loop-b
decreases-loop-b l = 32766 - l.b
