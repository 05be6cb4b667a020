-- `demands::pairs::pair_at` meets its contract. Assumes nothing.
use Rattle.format.specs.Kit.{sym, ◌∙◌}
use Rattle.format.specs.Refusals.{Outcome, refused}
use Rattle.format.specs.Pairs.{Below}
use Rattle.format.specs.Editions.{editions}
use Rattle.format.specs.Next.{Candidate}
use Rattle.laws.proofs.Digits.{below_all}
use Rattle.laws.proofs.PassedOn.{number_exactly, short_exactly}
use Rattle.laws.proofs.ReadersSay.{pair_at_exactly}
use Rattle.demands.proofs.Replies.{at_once, header_told}
use Rattle.demands.proofs.Answers.{pair_is}
use Rattle.demands.proofs.pairs.pair_at.Goals as goal

pub returns : goal.returns
returns c =
    let a = c.args in
    let b = a.bytes.now in
    let u : Below 256 b = below_all 256 b (λ i. (c.type_inv.bytes i).fits) in
    let e = c.pair_at.ensures in record {
      says = (pair_at_exactly editions b a.ordinal _).0 (sym e);
      header = header_told {A = Outcome Candidate} editions b _ (λ why w. refused why w) _ _ e
          (λ w. at_once ((number_exactly editions b u w).pairing a.ordinal)) (λ w. at_once ((short_exactly editions b u w).pairing a.ordinal));
      answers = λ n x. e ∙ pair_is b n x a.ordinal;
    }
