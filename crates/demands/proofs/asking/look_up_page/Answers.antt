-- `demands::asking::look_up_page` meets its contract. Assumes nothing.
use Rattle.format.specs.Kit.{refl, length}
use Rattle.format.specs.Editions.{editions}
use Rattle.format.specs.Page.{page}
use Rattle.laws.proofs.ReadersSay.{page_exactly}
use Rattle.demands.proofs.Replies.{page_kept}
use Rattle.demands.proofs.Answers.{page_answers}
use Rattle.demands.proofs.asking.look_up_page.Goals as goal

pub returns : goal.returns
returns c =
    let a = c.args in
    let r = c.look_up_page.result in
    let e = c.look_up_page.ensures in record {
      says = record {
        outcome = page editions a.bytes.now a.ids.now (length a.ordinals.now) (length a.values.now) (length a.kinds.now);
        says = (page_exactly editions a.bytes.now a.ids.now (length a.ordinals.now) (length a.values.now) (length a.kinds.now) _).0 refl;
        reply = e.replies;
        ordinals_after = e.ordinals_placed;
        values_after_is = e.values_placed;
        kinds_after = e.kinds_placed;
      };
      refused = page_kept _ a.ordinals.now _ a.values.now _ a.kinds.now _ r e.replies e.ordinals_placed e.values_placed e.kinds_placed;
      answers = page_answers a.bytes.now a.ids.now a.ordinals.now _ a.values.now _ a.kinds.now _ r e.replies e.ordinals_placed e.values_placed e.kinds_placed;
    }
