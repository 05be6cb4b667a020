-- `pair_at::halving::last_up_to` meets its contract. Assumes nothing.
use Rattle.format.specs.Kit.{arith}
use Rattle.pair_at.proofs.Halved.{begin, ends, above, below}
use Rattle.pair_at.proofs.halving.last_up_to.Goals as goal

pub loop-hi-init : goal.loop-hi-init
loop-hi-init g c = (omega arith, omega arith, λ h. h, λ f e. begin f _ _)

pub overflow_add-m : goal.overflow_add-m
overflow_add-m g c = omega (arith, c.loop-hi.invariant.0, c.loop-hi.invariant.1, c.requires.few)

pub loop-hi-preserved-then-number-x : goal.loop-hi-preserved-then-number-x
loop-hi-preserved-then-number-x g c =
    let v = c.loop-hi.invariant in (
      omega (arith, c.loop-hi-test.true),
      v.1,
      λ h. omega (arith, c.loop-hi-test.true),
      λ f e. above f _ _ _ _ (v.3 f e) c.loop-hi-test.true
          (omega (arith, c.if-number-x.true, e _ _ (omega (arith, c.loop-hi-test.true, v.1)) c.number.ensures)),
    )

pub loop-hi-preserved : goal.loop-hi-preserved
loop-hi-preserved g c =
    let v = c.loop-hi.invariant in (
      omega (arith, c.loop-hi-test.true),
      omega (arith, c.loop-hi-test.true, v.1),
      λ h. omega (arith, c.loop-hi-test.true),
      λ f e. below f _ _ _ _ (v.3 f e) c.loop-hi-test.true
          (omega (arith, c.if-number-x.false, e _ _ (omega (arith, c.loop-hi-test.true, v.1)) c.number.ensures)),
    )

pub returns-clause-is_last : goal.returns-clause-is_last
returns-clause-is_last g c = λ f e. (ends f _ _ _ _ (c.loop-hi.invariant.3 f e) (omega (arith, c.loop-hi-test.false))).0
