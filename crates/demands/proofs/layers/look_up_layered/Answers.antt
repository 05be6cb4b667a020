-- `demands::layers::look_up_layered` meets its contract. Assumes nothing.
use Rattle.format.specs.Kit.{sym, subst}
use Rattle.format.specs.Pairs.{Below}
use Rattle.format.specs.Editions.{editions}
use Rattle.format.specs.LookUp.{look_up}
use Rattle.format.specs.Layered.{LayeredLook, machine, correction, refused_by}
use Rattle.laws.proofs.Digits.{below_all}
use Rattle.laws.proofs.PassedOn.{number_exactly, short_exactly}
use Rattle.demands.specs.Tables.{LayeredSays}
use Rattle.demands.proofs.Replies.{pair_first, header_told}
use Rattle.demands.proofs.Tables.{layered_says}
use Rattle.demands.proofs.Answers.{few, layered_answered}
use Rattle.demands.proofs.layers.look_up_layered.Goals as goal

pub returns : goal.returns
returns c =
    let a = c.args in
    let m = a.below.now in
    let t = a.above.now in
    let um : Below 256 m = below_all 256 m (λ i. (c.type_inv.below i).fits) in
    let ut : Below 256 t = below_all 256 t (λ i. (c.type_inv.above i).fits) in
    let e = c.look_up_layered.ensures in record {
      says = subst (LayeredSays (look_up editions t a.id) (look_up editions m a.id)) (sym e.answers) (layered_says m t a.id);
      top_header = header_told {A = LayeredLook} editions t _ (refused_by correction) _ _ e.answers
          (λ w. (number_exactly editions t ut w).on_top_is m a.id) (λ w. (short_exactly editions t ut w).on_top_is m a.id);
      below_header = header_told {A = LayeredLook} editions m _ (refused_by machine) _ _ e.answers
          (λ w. pair_first ((number_exactly editions m um w).below t a.id)) (λ w. pair_first ((short_exactly editions m um w).below t a.id));
      words = λ layer x o. few x.head.power _ (e.words layer x o);
      answers = layered_answered m t a.id c.look_up_layered.result e.answers;
    }
