use Rattle.format.specs.Kit.{◌≡◌, false, ℕ, ◌+◌, ◌*◌, ◌<◌}
use Rattle.format.specs.Bytes.{low_at}
use Rattle.next_in_block.proofs.some_from.Given as goal

-- `next_in_block::some_from` meets its contract. Assumes nothing.
abbrev pub invariant-loop-k : goal.invariant-loop-k
invariant-loop-k l = l.some ≡ false → (j : ℕ) → j < l.k → low_at 2 l.s (l.at + 2 * j) < l.r
