-- `set_check::walk` meets its contract. Assumes nothing.
use Rattle.format.specs.Kit.{◌∙◌, le-leb, lt-leb}
use Rattle.answers.proofs.PassedOn.{passed_on}
use Rattle.set_check.proofs.Calls.{walk_limit, walk_next, walk_stop}
use Rattle.set_check.proofs.walk.Goals as goal

pub returns-in_err-number : goal.returns-in_err-number
returns-in_err-number c =
    rw (passed_on c.from_residual.result _ c.from_residual.ensures.1) (walk_stop c.args.s.now c.args.id _ c.in_err-number.ensures)

pub returns-then-number-gt-MAX_BLOCKS : goal.returns-then-number-gt-MAX_BLOCKS
returns-then-number-gt-MAX_BLOCKS c =
    walk_limit c.args.s.now c.args.id _ _ c.in_ok-number.ensures (lt-leb _ 32766 c.if-number-gt-MAX_BLOCKS.true)

pub returns : goal.returns
returns c =
    c.walk_blocks.ensures
    ∙ walk_next c.args.s.now c.args.id _ _ c.in_ok-number.ensures (le-leb _ 32766 c.if-number-gt-MAX_BLOCKS.false)
