-- `demands::pairs::read_from_in` meets its contract. Assumes nothing.
use Rattle.format.specs.Kit.{min, length}
use Rattle.format.specs.ReadFrom.{read_from_in}
use Rattle.column.specs.Opened.{column_of}
use Rattle.demands.proofs.Replies.{readout_kept}
use Rattle.demands.proofs.Tables.{read_from_in_says}
use Rattle.demands.proofs.pairs.read_from_in.Goals as goal

pub returns : goal.returns
returns c =
    let a = c.args in
    let b = a.bytes.now in
    let x = column_of a.column in
    let room = min (length a.ids.now) (length a.values.now) in
    let e = c.read_from_in.ensures in record {
      says = record {
        outcome = read_from_in b x a.id room;
        says = read_from_in_says b x a.id room;
        reply = e.replies;
        ids_after_is = e.ids_placed;
        values_after_is = e.values_placed;
      };
      refused = readout_kept _ a.ids.now _ a.values.now _ c.read_from_in.result e.replies e.ids_placed e.values_placed;
    }
