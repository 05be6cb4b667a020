-- `demands::look_up` meets its contract. Assumes nothing.
use Rattle.format.specs.Kit.{sym}
use Rattle.format.specs.Refusals.{Outcome, refused}
use Rattle.format.specs.Pairs.{Below}
use Rattle.format.specs.Editions.{editions}
use Rattle.laws.proofs.Digits.{below_all}
use Rattle.format.specs.LookUp.{Look}
use Rattle.laws.proofs.ReadersSay.{look_exactly}
use Rattle.laws.proofs.PassedOn.{number_exactly, short_exactly}
use Rattle.demands.proofs.Replies.{header_told}
use Rattle.demands.proofs.Answers.{few_told, look_up_probes_lem}
use Rattle.demands.proofs.look_up.Goals as goal

pub returns : goal.returns
returns c =
    let a = c.args in
    let b = a.bytes.now in
    let u : Below 256 b = below_all 256 b (λ i. (c.type_inv.bytes i).fits) in
    let l = c.look_up in
    let e = l.ensures in record {
      says = (look_exactly editions b a.id _).0 (sym e.answers);
      header = header_told {A = Outcome Look} editions b _ (λ why w. refused why w) _ _ e.answers
          (λ w. (number_exactly editions b u w).looking a.id) (λ w. (short_exactly editions b u w).looking a.id);
      words = λ x o. few_told x.head.power _ (e.words x o);
      probes = look_up_probes_lem b a.id l.result e.probes;
    }
