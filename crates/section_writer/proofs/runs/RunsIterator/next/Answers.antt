-- `section_writer::runs::Runs::next` meets its contract. Assumes nothing.
use Rattle.format.specs.Kit.{sym, subst}
use Rattle.format.specs.Pairs.{Asc}
use Rattle.section_writer.proofs.FirstRun.{asc_drop}
use Rattle.section_writer.proofs.runs.RunsIterator.next.Goals as goal

pub invariant_of-self : goal.invariant_of-self
invariant_of-self c =
    let ids = c.args.self.now in
    record { up = subst (Asc 0) (sym c.split_at.ensures.back) (asc_drop 0 c.run_len.result ids.rest.now ids.up) }
