-- `numbers::int_in` meets its contract. Assumes nothing.
use Rattle.format.specs.Kit.{arith}
use Rattle.numbers.proofs.Shorts.{in_low, in_high, int_high}
use Rattle.numbers.proofs.int_in.Goals as goal

pub returns-in-HighFirst : goal.returns-in-HighFirst
returns-in-HighFirst c =
    let a = c.args in
    (in_high _ 4 a.s.now a.i _ c.in-HighFirst.is (omega (arith, int_high a.s.now a.i (omega arith), c.from_be_bytes.ensures)), omega arith)

pub returns-in-LowFirst : goal.returns-in-LowFirst
returns-in-LowFirst c = (in_low _ 4 _ _ _ c.in-LowFirst.is c.int_at.ensures.0, c.int_at.ensures.1)
