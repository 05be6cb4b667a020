-- `demands::write` meets its contract. Assumes nothing.
use Rattle.format.specs.Kit.{refl, length}
use Rattle.format.specs.Writer.{write}
use Rattle.laws.proofs.WritersSay.{write_exactly}
use Rattle.demands.proofs.Replies.{output_kept}
use Rattle.demands.proofs.Writing.{write_writes}
use Rattle.demands.proofs.write.Goals as goal

pub returns : goal.returns
returns c =
    let a = c.args in
    let r = c.write.result in
    let e = c.write.ensures in record {
      says = record {
        outcome = write a.edition a.power a.ids.now a.values.now (length a.out.now);
        says = (write_exactly a.edition a.power a.ids.now a.values.now (length a.out.now) _).0 refl;
        reply = e.replies;
        after = e.written;
      };
      refused = output_kept a.out.now _ r _ e.replies e.written;
      writes = write_writes a.edition a.power a.ids.now a.values.now a.out.now _ r e.replies e.written;
    }
