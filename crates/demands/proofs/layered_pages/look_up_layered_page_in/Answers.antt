-- `demands::layered_pages::look_up_layered_page_in` meets its contract. Assumes nothing.
use Rattle.format.specs.Kit.{refl, length}
use Rattle.format.specs.Layered.{look_up_layered_in}
use Rattle.format.specs.LayeredPage.{layered_page_in}
use Rattle.column.specs.Opened.{column_of}
use Rattle.laws.proofs.LayeredSay.{layered_page_exactly}
use Rattle.demands.proofs.LayeredPages.{layered_page_kept}
use Rattle.demands.proofs.layered_pages.look_up_layered_page_in.Goals as goal

pub returns : goal.returns
unfolding layered_page_in
returns c =
    let a = c.args in
    let m = a.below.now in
    let t = a.above.now in
    let x = column_of a.lower in
    let y = column_of a.upper in
    let e = c.look_up_layered_page_in.ensures in
    let o = layered_page_in m x t y a.ids.now (length a.ordinals.now) (length a.values.now) (length a.kinds.now) (length a.columns.now) in record {
      says = record {
        outcome = o;
        says =
            (layered_page_exactly (look_up_layered_in m x t y) a.ids.now (length a.ordinals.now) (length a.values.now) (length a.kinds.now)
            (length a.columns.now) o).0 refl;
        reply = e.replies;
        ordinals_after = e.ordinals_placed;
        values_after_is = e.values_placed;
        kinds_after = e.kinds_placed;
        columns_after = e.columns_placed;
      };
      refused = layered_page_kept o a.ordinals.now _ a.values.now _ a.kinds.now _ a.columns.now _ c.look_up_layered_page_in.result e.replies
          e.ordinals_placed e.values_placed e.kinds_placed e.columns_placed;
    }
