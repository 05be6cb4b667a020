-- `demands::check` meets its contract. Assumes nothing.
use Rattle.format.specs.Kit.{sym, ℕ}
use Rattle.format.specs.Refusals.{Outcome, refused}
use Rattle.format.specs.Pairs.{Below}
use Rattle.format.specs.Editions.{editions}
use Rattle.laws.proofs.Digits.{below_all}
use Rattle.laws.proofs.ReadersSay.{check_exactly}
use Rattle.laws.proofs.PassedOn.{number_exactly, short_exactly}
use Rattle.demands.proofs.Replies.{at_once, header_told}
use Rattle.demands.proofs.check.Goals as goal

pub returns : goal.returns
returns c =
    let a = c.args in
    let b = a.bytes.now in
    let u : Below 256 b = below_all 256 b (λ i. (c.type_inv.bytes i).fits) in
    let e = c.check.ensures in record {
      says = (check_exactly editions b _).0 (sym e);
      header = header_told {A = Outcome ℕ} editions b _ (λ why w. refused why w) _ _ e
          (λ w. at_once (number_exactly editions b u w).checking) (λ w. at_once (short_exactly editions b u w).checking);
    }
