use Rattle.run_check.proofs.Turns.{Turn}
use Rattle.run_check.proofs.range_of.Given as goal

-- `run_check::range_of` meets its contract. The loop's invariant holds since a turn makes of the least, the greatest and the divisor so far,
-- with number i, what the definitions make of them, and goes on by one number's bits. Assumes nothing.
abbrev pub invariant-loop-i : goal.invariant-loop-i
invariant-loop-i l = Turn l.w l.n l.s l.d l.lo l.hi l.g l.m l.i l.at l.skip
