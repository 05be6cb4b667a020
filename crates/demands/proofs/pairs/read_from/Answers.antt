-- `demands::pairs::read_from` meets its contract. Assumes nothing.
use Rattle.format.specs.Kit.{refl, ℕ, Bool, min, length}
use Rattle.format.specs.Refusals.{Outcome, refused, SHORT, NUMBER}
use Rattle.format.specs.Pairs.{Below}
use Rattle.format.specs.Editions.{editions}
use Rattle.format.specs.ReadFrom.{read_from}
use Rattle.laws.proofs.Digits.{below_all}
use Rattle.laws.proofs.PassedOn.{number_exactly, short_exactly}
use Rattle.laws.proofs.ReadersSay.{read_from_exactly}
use Rattle.demands.proofs.Replies.{readout_kept, readout_told, header_told}
use Rattle.demands.proofs.Answers.{read_from_answers}
use Rattle.demands.proofs.pairs.read_from.Goals as goal

pub returns : goal.returns
returns c =
    let a = c.args in
    let b = a.bytes.now in
    let room = min (length a.ids.now) (length a.values.now) in
    let u : Below 256 b = below_all 256 b (λ j. (c.type_inv.bytes j).fits) in
    let e = c.read_from.ensures in record {
      says = record {
        outcome = read_from editions b a.id room;
        says = (read_from_exactly editions b a.id room _).0 refl;
        reply = e.replies;
        ids_after_is = e.ids_placed;
        values_after_is = e.values_placed;
      };
      refused = readout_kept _ a.ids.now _ a.values.now _ c.read_from.result e.replies e.ids_placed e.values_placed;
      header = header_told {A = Outcome (ℕ × Bool)} editions b _ (λ why w. refused why w) _ _ e.replies
          (λ w. readout_told _ NUMBER w ((number_exactly editions b u w).reading_from a.id room))
          (λ w. readout_told _ SHORT w ((short_exactly editions b u w).reading_from a.id room));
      answers = read_from_answers b a.id a.ids.now _ a.values.now _ c.read_from.result e.replies e.ids_placed e.values_placed;
    }
