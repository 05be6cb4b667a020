-- `run_check::range_of` meets its contract. The loop's invariant holds since a turn makes of the least, the greatest and the divisor so far,
use Rattle.format.specs.Kit.{le-leb}
use Rattle.format.specs.Limits.{max_width}
use Rattle.format.specs.Editions.{high_first}
use Rattle.run_check.proofs.Turns.{no_bits, next, ended}
use Rattle.run_check.proofs.range_of.Goals as goal

pub returns-then-w-eq0 : goal.returns-then-w-eq0
returns-then-w-eq0 c = let a = c.args in no_bits a.w a.n a.s.now a.d c.if-w-eq0.true c.requires.1

pub next_of-x-requires : goal.next_of-x-requires
unfolding high_first
next_of-x-requires c =
    let t = c.loop-i.invariant in
    let p = c.requires in
    (le-leb c.args.w max_width p.0, c.loop-i-test.true, p.3, t.place, t.few)

pub loop-i-preserved : goal.loop-i-preserved
unfolding high_first
loop-i-preserved c =
    next c.loop-i.invariant c.loop-i-test.true c.next_of-x.ensures c.min-lo.ensures
    c.max-hi.ensures c.common-h.ensures c.renewed-m.ensures

pub returns : goal.returns
returns c = ended c.loop-i.invariant c.loop-i-test.false
