-- `header_numbers::number_len` meets its contract. Each turn takes a byte off the number. Assumes nothing.
use Rattle.format.specs.Kit.{ap, arith, length}
use Rattle.header_numbers.proofs.Written.{number_last, number_more, number_some, number_most}
use Rattle.header_numbers.proofs.number_len.Goals as goal

pub loop-x-preserved : goal.loop-x-preserved
loop-x-preserved c =
    let e = ap length (number_more c.loop-x.x c.loop-x-test.true (omega arith)) in
    (omega (arith, e), omega arith, omega arith)

pub returns : goal.returns
returns c =
    let n = c.args.n in
    omega (arith, ap length (number_last c.loop-x.x c.loop-x-test.false), number_some n, number_most n)
