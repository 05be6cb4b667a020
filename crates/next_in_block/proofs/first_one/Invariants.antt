use Rattle.format.specs.Kit.{◌+◌, ◌*◌, ◌<◌}
use Rattle.next_in_block.proofs.Longs.{Clear}
use Rattle.next_in_block.proofs.first_one.Given as goal

-- `next_in_block::first_one` meets its contract. Invariant: no bit is set from r on before bit b of long k. Assumes nothing.
abbrev pub invariant-loop-k : goal.invariant-loop-k
invariant-loop-k l = Clear l.s l.m l.r (64 * l.k + l.b) × (l.b < 64)
