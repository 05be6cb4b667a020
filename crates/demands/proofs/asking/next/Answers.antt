-- `demands::asking::next` meets its contract. Assumes nothing.
use Rattle.format.specs.Kit.{refl, sym, ap, ◌∙◌}
use Rattle.format.specs.Refusals.{Outcome, refused}
use Rattle.format.specs.Pairs.{Below}
use Rattle.format.specs.Editions.{editions}
use Rattle.laws.proofs.Digits.{below_all}
use Rattle.format.specs.Next.{Candidate, last_after}
use Rattle.laws.proofs.ReadersSay.{next_exactly}
use Rattle.laws.proofs.PassedOn.{number_exactly, short_exactly}
use Rattle.demands.proofs.Replies.{both_first, header_told}
use Rattle.demands.proofs.Answers.{next_answers}
use Rattle.demands.proofs.asking.next.Goals as goal

pub returns : goal.returns
returns c =
    let a = c.args in
    let b = a.bytes.now in
    let u : Below 256 b = below_all 256 b (λ i. (c.type_inv.bytes i).fits) in
    let last = a.cursor.last in
    let t = a.target in
    let e = c.next.ensures in record {
      says = (next_exactly editions b last t _).0 (sym e.answers);
      header = header_told {A = Outcome Candidate} editions b _ (λ why w. refused why w) _ _ e.answers
          (λ w. both_first ((number_exactly editions b u w).nexting last t)) (λ w. both_first ((short_exactly editions b u w).nexting last t));
      cursor = e.cursor ∙ ap (λ (o : Outcome Candidate). last_after o last t) (sym e.answers);
      answers = next_answers b last t c.next.result _ refl e.answers e.cursor;
    }
