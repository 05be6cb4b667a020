-- `run_writer::plan` meets its contract. Assumes nothing.
use Rattle.format.specs.Kit.{sym}
use Rattle.laws.proofs.Editions.{runs_fields}
use Rattle.run_writer.proofs.plan.Goals as goal

pub returns : goal.returns
returns c =
    let s = c.scale_of-scale.ensures in
    (rw s.divisor_is (sym (runs_fields c.args.values.now)), s.fit)
