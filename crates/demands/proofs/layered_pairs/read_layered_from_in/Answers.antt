-- `demands::layered_pairs::read_layered_from_in` meets its contract. Assumes nothing.
use Rattle.format.specs.Kit.{min, length}
use Rattle.format.specs.LayeredReading.{read_layered_in}
use Rattle.column.specs.Opened.{column_of}
use Rattle.demands.proofs.Replies.{layered_readout_kept}
use Rattle.demands.proofs.Tables.{layered_read_in_says}
use Rattle.demands.proofs.layered_pairs.read_layered_from_in.Goals as goal

pub returns : goal.returns
returns c =
    let a = c.args in
    let m = a.below.now in
    let t = a.above.now in
    let x = column_of a.lower in
    let y = column_of a.upper in
    let room = min (length a.columns.now) (min (length a.ids.now) (length a.values.now)) in
    let e = c.read_layered_from_in.ensures in
    let o = read_layered_in m x t y a.id room in record {
      says = record {
        outcome = o;
        says = layered_read_in_says m x t y a.id room;
        reply = e.replies;
        ids_after_is = e.ids_placed;
        values_after_is = e.values_placed;
        columns_after = e.columns_placed;
      };
      refused = layered_readout_kept o a.ids.now _ a.values.now _ a.columns.now _ c.read_layered_from_in.result e.replies e.ids_placed e.values_placed e.columns_placed;
    }
