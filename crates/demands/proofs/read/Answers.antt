-- `demands::read` meets its contract. Assumes nothing.
use Rattle.format.specs.Kit.{refl, ℕ, length}
use Rattle.format.specs.Refusals.{Outcome, refused, SHORT, NUMBER}
use Rattle.format.specs.Pairs.{Below}
use Rattle.format.specs.Editions.{editions}
use Rattle.laws.proofs.Digits.{below_all}
use Rattle.format.specs.Check.{reading}
use Rattle.laws.proofs.PassedOn.{number_exactly, short_exactly}
use Rattle.laws.proofs.ReadersSay.{reading_exactly}
use Rattle.demands.proofs.Replies.{read_kept, read_told, at_once, header_told}
use Rattle.demands.proofs.read.Goals as goal

pub returns : goal.returns
returns c =
    let a = c.args in
    let b = a.bytes.now in
    let i = length a.ids.now in
    let v = length a.values.now in
    let u : Below 256 b = below_all 256 b (λ j. (c.type_inv.bytes j).fits) in
    let e = c.read.ensures in record {
      says = record {
        outcome = reading editions b i v;
        says = (reading_exactly editions b i v _).0 refl;
        reply = e.replies;
        ids_after_is = e.ids_filled;
        values_after_is = e.values_filled;
      };
      refused = read_kept _ a.ids.now _ a.values.now _ c.read.result e.replies e.ids_filled e.values_filled;
      header = header_told {A = Outcome ℕ} editions b _ (λ why w. refused why w) _ _ e.replies
          (λ w. at_once (read_told _ NUMBER w ((number_exactly editions b u w).full_reading i v)))
          (λ w. at_once (read_told _ SHORT w ((short_exactly editions b u w).full_reading i v)));
    }
