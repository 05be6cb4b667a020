-- `demands::planning::write_planned` meets its contract. Assumes nothing.
use Rattle.format.specs.Kit.{refl, length}
use Rattle.format.specs.Writer.{write_planned}
use Rattle.laws.proofs.WritersSay.{planned_exactly}
use Rattle.demands.proofs.Replies.{output_kept}
use Rattle.demands.proofs.Writing.{planned_writes, seventeen}
use Rattle.demands.proofs.planning.write_planned.Goals as goal

pub returns : goal.returns
returns c =
    let a = c.args in
    let r = c.write_planned.result in
    let e = c.write_planned.ensures in record {
      says = record {
        outcome = write_planned a.power a.ids.now a.values.now a.table.now (length a.out.now);
        says = (planned_exactly a.power a.ids.now a.values.now a.table.now (length a.out.now) _).0 refl;
        reply = e.replies;
        after = e.written;
      };
      refused = output_kept a.out.now _ r _ e.replies e.written;
      writes = planned_writes a.power a.ids.now a.values.now a.table.now a.out.now _ r e.replies e.written;
      seventeen = seventeen a.power a.ids.now a.values.now a.table.now (length a.out.now) r e.replies;
    }
