use Rattle.format.specs.Kit.{◌≡◌, ◌-◌, ◌*◌}
use Rattle.format.specs.PairAt.{bit_after}
use Rattle.pair_at.proofs.places.in_longs.Given as goal

-- `pair_at::places::in_longs` meets its contract. Invariant: the longs that are left give what all give. Assumes nothing.
abbrev pub invariant-loop-k : goal.invariant-loop-k
invariant-loop-k l =
    bit_after l.s l.m (64 * (l.end - l.first)) (64 * l.first) l.index ≡ bit_after l.s l.m (64 * (l.end - l.k)) (64 * l.k) l.j
