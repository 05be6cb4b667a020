-- `section_check::judge` meets its contract. Assumes nothing.
use Rattle.format.specs.Kit.{◌∙◌}
use Rattle.std.proofs.lemmas.Result.{err_from_is_err_and}
use Rattle.section_check.proofs.Left.{judge_fault, judge_rest_lem}
use Rattle.section_check.proofs.judge.Goals as goal

pub returns-in_err-end : goal.returns-in_err-end
returns-in_err-end c =
    let p = err_from_is_err_and c.from_residual.result c.from_residual.ensures.1 in
    rw (p.1, p.2) (judge_fault _ _ c.args.j _ _ _ c.in_err-end.ensures)

pub returns : goal.returns
returns c = let a = c.args in c.judge_rest.ensures ∙ judge_rest_lem _ a.p a.j a.s.now _ c.in_ok-end.ensures
