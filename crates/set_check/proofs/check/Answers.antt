-- `set_check::check` meets its contract. Assumes nothing.
use Rattle.answers.proofs.PassedOn.{passed_on}
use Rattle.set_check.proofs.Calls.{check_done, check_refused}
use Rattle.set_check.proofs.check.Goals as goal

pub returns-in_err-t : goal.returns-in_err-t
returns-in_err-t c =
    rw (passed_on c.from_residual.result _ c.from_residual.ensures.1) (check_refused c.args.s.now 0 _ c.in_err-t.ensures)

pub returns : goal.returns
returns c = check_done c.args.s.now 0 _ c.in_ok-t.ensures
