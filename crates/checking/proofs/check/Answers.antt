-- `checking::check` meets its contract. Assumes nothing.
use Rattle.format.specs.Kit.{sym, ◌∙◌}
use Rattle.answers.proofs.PassedOn.{passed_on}
use Rattle.checking.proofs.Steps.{check_refused, check_damaged, check_done}
use Rattle.checking.proofs.check.Goals as goal

pub returns-in_err-c : goal.returns-in_err-c
returns-in_err-c c =
    rw (passed_on c.from_residual.result _ c.from_residual.ensures.1) (check_refused c.args.bytes.now _ _ (sym c.in_err-c.ensures))

pub accepts-requires : goal.accepts-requires
accepts-requires c = sym c.in_ok-c.ensures

pub returns-then-not-accepts : goal.returns-then-not-accepts
returns-then-not-accepts c =
    check_damaged c.args.bytes.now _ (sym c.in_ok-c.ensures) (sym c.accepts.ensures ∙ c.if-not-accepts.true)

pub returns : goal.returns
returns c = check_done c.args.bytes.now _ (sym c.in_ok-c.ensures) (sym c.accepts.ensures ∙ c.if-not-accepts.false)
