-- `header_numbers::quick_byte` meets its contract. Assumes nothing.
use Rattle.format.specs.Kit.{refl, arith}
use Rattle.header_numbers.proofs.Fast.{quick_is}
use Rattle.header_numbers.proofs.Steps.{small_first}
use Rattle.header_numbers.proofs.quick_byte.Goals as goal

pub returns-then-b-lt128 : goal.returns-then-b-lt128
returns-then-b-lt128 c =
    let a = c.args in (
      quick_is 1 (small_first a.s.now a.at c.from-b.ensures (omega arith) c.if-b-lt128.true) (omega arith) refl refl refl,
      λ n. refl,
    )
