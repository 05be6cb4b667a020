-- `scaling::divisor::gcd_of` meets its contract. Assumes nothing.
use Rattle.format.specs.Kit.{◌≡◌, sym, ap, ◌∙◌, ℕ, ◌+◌, rules}
use Rattle.laws.proofs.Gcd.{gcd_From_one}
use Rattle.laws.proofs.Values.{gcd_from_smallest}
use Rattle.scaling.specs.Scaled.{gcd_at}
use Rattle.scaling.proofs.Spread.{gcd_none}
use Rattle.scaling.proofs.Kept.{passed_all}
use Rattle.scaling.proofs.divisor.gcd_of.Goals as goal
use Rattle.scaling.proofs.divisor.gcd_of.Goals.{After-gcd_part-g}

-- with the values taken one by one
after : (c : After-gcd_part-g) → let vs = c.args.values.now in
    gcd_at c.gcd_part-g.result c.part_end-end.result vs ≡ gcd_at 0 0 vs
after c = c.gcd_part-g.ensures ∙ c.loop-i.invariant.1

pub returns-then-g-eq1 : goal.returns-then-g-eq1
returns-then-g-eq1 c =
    let vs = c.args.values.now in
    sym (gcd_From_one _) ∙ ap (λ (g : ℕ). gcd_at g c.part_end-end.result vs) (sym c.if-g-eq1.true) ∙ after (goal.at.returns-then-g-eq1 c).After-gcd_part-g ∙ gcd_from_smallest vs

pub loop-i-preserved : goal.loop-i-preserved
loop-i-preserved c =
    let vs = c.args.values.now in
    let g = c.gcd_part-g.result in (
      c.passed-i.ensures.1,
      passed_all (λ i. gcd_at g i vs ≡ gcd_at 0 0 vs) c.passed-i.ensures.2 (after (goal.at.loop-i-preserved c).After-gcd_part-g) (λ i a b p q. let e : gcd_at g (i + 128) vs ≡ gcd_at g i vs = search rules in e ∙ q),
    )

pub returns : goal.returns
returns c = sym (gcd_none _ _ _ c.loop-i-test.false) ∙ c.loop-i.invariant.1 ∙ gcd_from_smallest _
