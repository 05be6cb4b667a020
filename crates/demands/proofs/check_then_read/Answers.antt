-- `demands::check_then_read` meets its contract. Assumes nothing.
use Rattle.format.specs.Kit.{sym, ◌∙◌}
use Rattle.demands.proofs.Lists.{accepts_exactly, one_list, reads, reads_alike}
use Rattle.demands.proofs.Writing.{is_written}
use Rattle.demands.proofs.check_then_read.Goals as goal

pub returns : goal.returns
returns c =
    let a = c.args in
    let e = c.read-read.ensures in record {
      accepts = accepts_exactly a.bytes.now c.check-checked.result c.check-checked.ensures;
      one_list = one_list a.bytes.now;
      written = is_written a.bytes.now;
      reads = reads a.bytes.now a.ids.now _ a.values.now _ c.read-read.result e.replies e.ids_filled e.values_filled;
      alike = λ x o hi hv.
          reads_alike a.bytes.now a.ids.now _ a.values.now _ c.read-read.result e.replies e.ids_filled e.values_filled x o hi hv
          ∙ sym c.check-checked.ensures;
    }
