use Rattle.format.specs.Kit.{◌≡◌, ◌-◌, ◌*◌, ◌≤◌, length}
use Rattle.format.specs.Codec.{Fields}
use Rattle.packings.specs.declared.Order as Od
use Rattle.scaled_reader.specs.Stored.{FilledTo, Eights}
use Rattle.scaled_reader.proofs.fill_eights.Given as goal

-- `scaled_reader::fill_eights` meets its contract. The loop's invariant holds since the two windows of a turn hold the next eight numbers, and
-- eight numbers of w bits are w bytes. Assumes nothing.
abbrev pub invariant-loop-i : goal.invariant-loop-i
invariant-loop-i l =
    (l.i ≤ l.n) × (l.at * 8 ≡ l.i * l.w)
    × ((f : Fields) → Eights Od.Order.High l.n f l.section (length l.initial.values) l.w l.low l.divisor → FilledTo Od.Order.High l.n f l.section l.initial.values l.values l.i)

abbrev pub decreases-loop-i : goal.decreases-loop-i
decreases-loop-i l = l.n - l.i
