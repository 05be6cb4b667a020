-- `demands::layered_pages::look_up_layered_page` meets its contract. Assumes nothing.
use Rattle.format.specs.Kit.{refl, length}
use Rattle.format.specs.Editions.{editions}
use Rattle.format.specs.Layered.{look_up_layered}
use Rattle.format.specs.LayeredPage.{layered_page}
use Rattle.laws.proofs.LayeredSay.{layered_page_exactly}
use Rattle.demands.proofs.LayeredPages.{layered_page_kept, layered_page_answers}
use Rattle.demands.proofs.layered_pages.look_up_layered_page.Goals as goal

pub returns : goal.returns
unfolding layered_page
returns c =
    let a = c.args in
    let m = a.below.now in
    let t = a.above.now in
    let r = c.look_up_layered_page.result in
    let e = c.look_up_layered_page.ensures in
    let o = layered_page editions m t a.ids.now (length a.ordinals.now) (length a.values.now) (length a.kinds.now)
    (length a.columns.now) in record {
      says = record {
        outcome = o;
        says =
            (layered_page_exactly (look_up_layered editions m t) a.ids.now (length a.ordinals.now) (length a.values.now)
            (length a.kinds.now) (length a.columns.now) o).0
            refl;
        reply = e.replies;
        ordinals_after = e.ordinals_placed;
        values_after_is = e.values_placed;
        kinds_after = e.kinds_placed;
        columns_after = e.columns_placed;
      };
      refused = layered_page_kept o a.ordinals.now _ a.values.now _ a.kinds.now _ a.columns.now _ r e.replies e.ordinals_placed e.values_placed
          e.kinds_placed e.columns_placed;
      answers = layered_page_answers m t a.ids.now a.ordinals.now _ a.values.now _ a.kinds.now _ a.columns.now _ r e.replies e.ordinals_placed
          e.values_placed e.kinds_placed e.columns_placed;
    }
