-- `writer::header::numbers_len` meets its contract. The sum so far and the bytes of the numbers that are left are all the bytes.
use Rattle.format.specs.Kit.{ap, arith, length}
use Rattle.writer.proofs.Numbers.{rest_none, rest_length}
use Rattle.writer.proofs.header.numbers_len.Goals as goal

pub loop-n-init : goal.loop-n-init
loop-n-init c = (omega arith, omega arith, omega arith)

pub loop-n-preserved : goal.loop-n-preserved
loop-n-preserved c =
    let ns = c.args.ns.now in
    (omega arith, omega arith, omega (arith, rest_length ns c.loop-n.n-index c.loop-n-test.true))

pub returns : goal.returns
returns c =
    let ns = c.args.ns.now in
    omega (arith, ap length (rest_none ns c.loop-n.n-index c.loop-n-test.false))
