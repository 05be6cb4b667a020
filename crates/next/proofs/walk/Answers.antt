-- `next::walk` meets its contract. Invariant: the ids from place r of block b on are left. Assumes nothing.
use Rattle.format.specs.Kit.{◌+◌, arith}
use Rattle.answers.proofs.PassedOn.{passed_on}
use Rattle.next.proofs.Turns.{left_begin, left_on, left_met, left_refused, left_none}
use Rattle.next.proofs.Passed.{left_passed}
use Rattle.next.proofs.walk.Goals as goal

pub returns-in_err-met : goal.returns-in_err-met
returns-in_err-met c =
    let a = c.args in
    let l = c.loop-b in
    let e = passed_on c.from_residual.result _ c.from_residual.ensures.1 in
    rw e (left_refused a.s.now a.q l.b l.r l.invariant.0 (omega arith) (omega arith) _ c.in_err-met.ensures)

pub returns-in-Some : goal.returns-in-Some
returns-in-Some c =
    let a = c.args in
    let l = c.loop-b in
    left_met a.s.now a.q l.b l.r l.invariant.0 (omega arith) (omega arith) c.in-Some.met (rw c.in-Some.is at c.in_ok-met.ensures)

pub loop-b-preserved : goal.loop-b-preserved
loop-b-preserved c =
    let a = c.args in
    let l = c.loop-b in
    let i = rw c.in_default.is at c.in_ok-met.ensures in (
      left_passed a.s.now a.q (l.b + 1) c.next_block-b.result
          (left_on a.s.now a.q l.b l.r l.invariant.0 (omega arith) (omega arith) i) c.next_block-b.ensures,
      omega arith,
      c.next_block-b.ensures.most,
    )

pub returns : goal.returns
returns c =
    let a = c.args in
    let l = c.loop-b in
    left_none a.s.now a.q l.b l.r l.invariant.0 (omega arith)

pub loop-b-init : goal.loop-b-init
loop-b-init c = let a = c.args in (left_begin a.s.now a.q, c.requires.0.place, omega arith)
