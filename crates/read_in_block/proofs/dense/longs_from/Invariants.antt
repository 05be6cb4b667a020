use Rattle.format.specs.Kit.{◌≡◌, ◌+◌, ◌-◌, ◌≤◌, ◌<◌}
use Rattle.next_in_block.specs.First.{inner_in}
use Rattle.read_in_block.proofs.Ahead.{Ahead}
use Rattle.read_in_block.proofs.dense.longs_from.Given as goal

-- `read_in_block::dense::longs_from` meets its contract. Invariant: longs that follow from place y on follow from place r on. Assumes nothing.
abbrev pub invariant-loop-y : goal.invariant-loop-y
invariant-loop-y l = Ahead l.p l.s l.t l.r l.rank l.y l.ones × (l.ones ≤ l.most) × (l.y < 65536 → l.rank + l.ones ≡ inner_in l.p l.s l.t l.y)

abbrev pub decreases-loop-y : goal.decreases-loop-y
decreases-loop-y l = 65536 - l.y
