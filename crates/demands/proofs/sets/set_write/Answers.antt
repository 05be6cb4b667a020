-- `demands::sets::set_write` meets its contract. Assumes nothing.
use Rattle.format.specs.Kit.{refl, length}
use Rattle.format.specs.SetBytes.{set_write}
use Rattle.laws.proofs.WritersSay.{set_exactly}
use Rattle.demands.proofs.Replies.{output_kept}
use Rattle.demands.proofs.Writing.{set_writes}
use Rattle.demands.proofs.sets.set_write.Goals as goal

pub returns : goal.returns
returns c =
    let a = c.args in
    let r = c.set_write.result in
    let e = c.set_write.ensures in record {
      says = record {
        outcome = set_write a.ids.now (length a.out.now);
        says = (set_exactly a.ids.now (length a.out.now) _).0 refl;
        reply = e.replies;
        after = e.written;
      };
      refused = output_kept a.out.now _ r _ e.replies e.written;
      writes = set_writes a.ids.now a.out.now _ r e.replies e.written;
    }
