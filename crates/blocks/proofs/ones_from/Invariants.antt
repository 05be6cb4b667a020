use Rattle.format.specs.Kit.{◌≡◌, ◌+◌, ◌-◌, ◌*◌, ◌≤◌}
use Rattle.format.specs.LookUp.{ones_from}
use Rattle.blocks.proofs.ones_from.Given as goal

-- `blocks::ones_from` meets its contract. Assumes nothing.
abbrev pub invariant-loop-i : goal.invariant-loop-i
invariant-loop-i l = (l.sum + ones_from l.s l.m (l.n - l.i) (l.first + l.i) ≡ ones_from l.s l.m l.n l.first) × (l.sum ≤ 64 * l.i)
