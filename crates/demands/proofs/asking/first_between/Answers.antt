-- `demands::asking::first_between` meets its contract. Assumes nothing.
use Rattle.format.specs.Kit.{sym, ap₂, ◌∙◌, subst, [], ◌∷◌, Option, ℕ, ℤ}
use Rattle.format.specs.Refusals.{Outcome, refused}
use Rattle.format.specs.Pairs.{Below}
use Rattle.format.specs.Editions.{runs}
use Rattle.format.specs.FirstBetween.{first_between}
use Rattle.laws.proofs.Digits.{below_all}
use Rattle.signed.proofs.Signs.{read_back}
use Rattle.laws.proofs.PassedOn.{number_in_3, short_in_3}
use Rattle.demands.specs.Tables.{BetweenSays}
use Rattle.demands.proofs.Replies.{at_once, header_told}
use Rattle.demands.proofs.Tables.{between_says}
use Rattle.demands.proofs.Answers.{between_scans, between_others}
use Rattle.demands.proofs.asking.first_between.Goals as goal

pub returns : goal.returns
returns c =
    let a = c.args in
    let b = a.bytes.now in
    let u : Below 256 b = below_all 256 b (λ i. (c.type_inv.bytes i).fits) in
    let e =
    c.first_between.ensures
    ∙ ap₂ (λ (x y : ℤ). first_between b x y) (read_back a.low c.ranges.low.sfits) (read_back a.high c.ranges.high.sfits) in record {
      says = subst (BetweenSays b a.low a.high) (sym e) (between_says b a.low a.high);
      header = header_told {A = Outcome (Option ℕ)} (runs ∷ []) b _ (λ why w. refused why w) _ _ e
          (λ w. at_once ((number_in_3 b u w).ranging a.low a.high)) (λ w. at_once ((short_in_3 b u w).ranging a.low a.high));
      scans = λ n x h. e ∙ between_scans b n x a.low a.high h;
      others = λ n x h. e ∙ between_others b n x a.low a.high h;
    }
