-- `writer::write_planned` meets its contract. Assumes nothing.
use Rattle.format.specs.Kit.{length}
use Rattle.answers.proofs.PassedOn.{passed_on}
use Rattle.writer.proofs.Written.{why_planned, refused_both}
use Rattle.writer.proofs.write_planned.Goals as goal

pub returns-in_err-refusal_of : goal.returns-in_err-refusal_of
returns-in_err-refusal_of c =
    let a = c.args in
    let both = refused_both _ a.out.now
    (why_planned a.power a.ids.now a.values.now (length a.out.now) _ c.in_err-refusal_of.ensures a.table.now) in
    rw (passed_on c.from_residual.result _ c.from_residual.ensures.1) (record { replies = both.0; written = both.1 })

pub write_checked-requires : goal.write_checked-requires
write_checked-requires c = c.in_ok-refusal_of.ensures

pub returns : goal.returns
returns c =
    record { replies = c.write_checked.ensures.replies; written = c.write_checked.ensures.written }
