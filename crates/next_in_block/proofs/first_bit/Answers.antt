-- `next_in_block::first_bit` meets its contract. Assumes nothing.
use Rattle.format.specs.Kit.{arith}
use Rattle.next_in_block.proofs.Trailing.{first_set}
use Rattle.next_in_block.proofs.first_bit.Goals as goal

pub returns-then-j-lt64 : goal.returns-then-j-lt64
returns-then-j-lt64 c = (omega arith, rw c.zeros_below.ensures.0 (first_set c.args.long c.args.b))

pub returns-else-j-lt64 : goal.returns-else-j-lt64
returns-else-j-lt64 c =
    let f = first_set c.args.long c.args.b in
    record {
      from = omega arith;
      most = omega arith;
      clear = λ j h l. f.clear j h (omega (arith, c.zeros_below.ensures.0));
      is_set = λ l. absurd (omega arith);
    }
