-- `run_search::first_from` meets its contract. Assumes nothing.
use Rattle.format.specs.Kit.{◌∙◌, ◌/◌, ◌%◌}
use Rattle.format.specs.ValueRuns.{summary_at}
use Rattle.signed.specs.Sign.{unbiased}
use Rattle.run_search.proofs.Left.{part_left}
use Rattle.std.specs.Prelude.{Some, None, Ok, Err}
use Rattle.std.proofs.lemmas.Result.{err_from_is_err_and}
use Rattle.run_search.proofs.first_from.Goals as goal

pub returns-in-Some : goal.returns-in-Some
returns-in-Some c =
    let a = c.args in
    part_left _ (summary_at a.section.now) (unbiased a.low) (unbiased a.high) a.n (a.from / 16384) (a.from % 16384)
    (Ok (Some c.in-Some.ordinal)) (rw c.in-Some.is at c.in_ok-ordinal.ensures)

pub returns-in_err-ordinal : goal.returns-in_err-ordinal
returns-in_err-ordinal c =
    let a = c.args in
    let p = err_from_is_err_and c.from_residual.result c.from_residual.ensures.1 in
    rw (p.1, p.2)
    (part_left _ (summary_at a.section.now) (unbiased a.low) (unbiased a.high) a.n (a.from / 16384) (a.from % 16384)
    (Err c.in_err-ordinal.field-0.0) c.in_err-ordinal.ensures)

pub returns : goal.returns
returns c =
    let a = c.args in
    c.in_runs.ensures
    ∙ part_left _ (summary_at a.section.now) (unbiased a.low) (unbiased a.high) a.n (a.from / 16384) (a.from % 16384)
    (Ok None) (rw c.in_default.is at c.in_ok-ordinal.ensures)
