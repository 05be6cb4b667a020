-- `demands::pairs::first_between_from` meets its contract. Assumes nothing.
use Rattle.format.specs.Kit.{sym, ap, ap₂, ◌∙◌, subst, [], ◌∷◌, Option, ℕ, ℤ}
use Rattle.format.specs.Refusals.{Outcome, refused}
use Rattle.format.specs.Pairs.{Below}
use Rattle.format.specs.Editions.{runs}
use Rattle.format.specs.BetweenFrom.{first_between_from}
use Rattle.laws.proofs.Digits.{below_all}
use Rattle.laws.proofs.BetweenFrom.{between_from_zero}
use Rattle.laws.proofs.PassedOn.{number_in_3, short_in_3}
use Rattle.signed.proofs.Signs.{read_back}
use Rattle.demands.specs.Tables.{BetweenFromSays}
use Rattle.demands.proofs.Replies.{at_once, header_told}
use Rattle.demands.proofs.Tables.{between_from_says}
use Rattle.demands.proofs.Answers.{from_scans, from_others}
use Rattle.demands.proofs.pairs.first_between_from.Goals as goal

pub returns : goal.returns
returns c =
    let a = c.args in
    let b = a.bytes.now in
    let i = a.from in
    let u : Below 256 b = below_all 256 b (λ j. (c.type_inv.bytes j).fits) in
    let e =
    c.first_between_from.ensures
    ∙ ap₂ (λ (x y : ℤ). first_between_from b i x y) (read_back a.low c.ranges.low.sfits) (read_back a.high c.ranges.high.sfits) in record {
      says = subst (BetweenFromSays b i a.low a.high) (sym e) (between_from_says b i a.low a.high);
      header = header_told {A = Outcome (Option ℕ)} (runs ∷ []) b _ (λ why w. refused why w) _ _ e
          (λ w. at_once ((number_in_3 b u w).ranging_from i a.low a.high)) (λ w. at_once ((short_in_3 b u w).ranging_from i a.low a.high));
      scans = λ n x h. e ∙ from_scans b n x a.low a.high i h;
      others = λ n x h. e ∙ from_others b n x a.low a.high i h;
      from_zero = λ z. e ∙ ap (λ (k : ℕ). first_between_from b k a.low a.high) z ∙ between_from_zero b a.low a.high;
    }
