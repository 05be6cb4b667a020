use Rattle.format.specs.Values.{stored_with}
use Rattle.packings.proofs.Packings.{sound_of}
use Rattle.packing.proofs.Stream.{Streamed}
use Rattle.scaled_values.proofs.put_numbers.Given as goal

-- `scaled_values::put_numbers` meets its contract. The loop's invariant, that the first i stored numbers are written or wait, holds since a turn
-- pushes the difference from the smallest value over the divisor, which is number i.
-- Assumes nothing.
abbrev pub invariant-loop-v : goal.invariant-loop-v
invariant-loop-v l = Streamed (sound_of l.order).order (stored_with l.divisor l.values) l.w l.initial.out l.v-index l.out l.p
