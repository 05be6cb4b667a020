-- `demands::layered_pairs::read_layered_from` meets its contract. Assumes nothing.
use Rattle.format.specs.Kit.{refl, min, length}
use Rattle.format.specs.Refusals.{SHORT, NUMBER}
use Rattle.format.specs.Pairs.{Below}
use Rattle.format.specs.Editions.{editions}
use Rattle.format.specs.Layered.{machine, correction}
use Rattle.format.specs.LayeredReading.{LayeredCount, refused_count, read_layered}
use Rattle.laws.proofs.Digits.{below_all}
use Rattle.laws.proofs.PassedOn.{number_exactly, short_exactly}
use Rattle.laws.proofs.LayeredSay.{layered_read_exactly}
use Rattle.demands.proofs.Replies.{layered_readout_kept, layered_readout_told, pair_first, header_told}
use Rattle.demands.proofs.Answers.{layered_read_answers}
use Rattle.demands.proofs.layered_pairs.read_layered_from.Goals as goal

pub returns : goal.returns
returns c =
    let a = c.args in
    let m = a.below.now in
    let t = a.above.now in
    let room = min (length a.columns.now) (min (length a.ids.now) (length a.values.now)) in
    let um : Below 256 m = below_all 256 m (λ j. (c.type_inv.below j).fits) in
    let ut : Below 256 t = below_all 256 t (λ j. (c.type_inv.above j).fits) in
    let e = c.read_layered_from.ensures in
    let o = read_layered editions m t a.id room in record {
      says = record {
        outcome = o;
        says = (layered_read_exactly editions m t a.id room _).0 refl;
        reply = e.replies;
        ids_after_is = e.ids_placed;
        values_after_is = e.values_placed;
        columns_after = e.columns_placed;
      };
      refused = layered_readout_kept o a.ids.now _ a.values.now _ a.columns.now _ c.read_layered_from.result e.replies e.ids_placed e.values_placed e.columns_placed;
      top_header = header_told {A = LayeredCount} editions t _ (refused_count correction) _ _ e.replies
          (λ w. layered_readout_told o correction NUMBER w ((number_exactly editions t ut w).reading_on_top m a.id room))
          (λ w. layered_readout_told o correction SHORT w ((short_exactly editions t ut w).reading_on_top m a.id room));
      below_header = header_told {A = LayeredCount} editions m _ (refused_count machine) _ _ e.replies
          (λ w. layered_readout_told o machine NUMBER w (pair_first ((number_exactly editions m um w).reading_below t a.id room)))
          (λ w. layered_readout_told o machine SHORT w (pair_first ((short_exactly editions m um w).reading_below t a.id room)));
      answers = layered_read_answers m t a.id a.ids.now _ a.values.now _ a.columns.now _ c.read_layered_from.result e.replies e.ids_placed e.values_placed
          e.columns_placed;
    }
