use Rattle.format.specs.Kit.{◌≡◌, ◌&&◌, ◌+◌, ◌-◌, ◌*◌, ◌/◌, ◌^◌, ◌≤◌}
use Rattle.format.specs.Ids.{rank_bytes}
use Rattle.format.specs.LookUp.{ones_from}
use Rattle.format.specs.Judge.{ranks_from}
use Rattle.section_check.proofs.block.count_words.Given as goal

-- `section_check::block::count_words` meets its contract. The loop's invariant: the sum is the ones of the strides passed, and what was found
-- right so far, with the entries left, is what all entries give. Assumes nothing.
abbrev pub invariant-loop-j : goal.invariant-loop-j
invariant-loop-j l =
    (l.right && ranks_from (l.n - l.j) l.p l.s l.t l.m l.j ≡ ranks_from (rank_bytes l.p / 2) l.p l.s l.t (l.t + rank_bytes l.p) 0) × (l.sum ≡ ones_from l.s l.m l.first 0)
    × (l.first ≡ l.j * 2 ^ (l.p - 6)) × (l.sum ≤ 64 * l.first)
