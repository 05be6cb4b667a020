-- `scaling::divisor::gcd_part` meets its contract. Assumes nothing.
use Rattle.format.specs.Kit.{◌≡◌, sym, ap, ◌∙◌, List, map, ℕ, ◌+◌, arith, rules, drop}
use Rattle.format.specs.Values.{smallest, over, gcd_from}
use Rattle.laws.proofs.Gcd.{gcd_From_one}
use Rattle.scaling.specs.Scaled.{gcd_at}
use Rattle.scaling.proofs.Part.{ValueAt, value_at}
use Rattle.scaling.proofs.Spread.{low_at, gcd_more}
use Rattle.scaling.proofs.divisor.gcd_part.Goals as goal
use Rattle.scaling.proofs.divisor.gcd_part.Goals.{After-biased, After-common-h}

value : (c : After-biased) → ValueAt c.args.values.now (c.args.from + c.loop-v.v-index) c.biased.result
value c = value_at _ _ _ _ _ c.loop-v-test.true (search rules) c.biased.ensures

pub over-requires : goal.over-requires
over-requires c = low_at c.requires.0 c.requires.1 (value c)

turn : (c : After-common-h) → let a = c.args in
    gcd_at c.common-h.result (a.from + (c.loop-v.v-index + 1)) a.values.now ≡ gcd_at a.start a.from a.values.now
turn c =
    rw (c.common-h.ensures, c.over.ensures)
    (sym (gcd_more c.loop-v.g c.requires.0 c.requires.1 (value (goal.at.After-common-h c).After-biased) (omega arith)) ∙ c.loop-v.invariant.0)

pub returns-then-h-eq1 : goal.returns-then-h-eq1
returns-then-h-eq1 c =
    let a = c.args in
    let rest : ℕ → List ℕ = λ i. map (over (smallest a.values.now)) (drop i a.values.now) in
    let next : ℕ = a.from + (c.loop-v.v-index + 1) in
    gcd_From_one (rest a.end) ∙ sym (gcd_From_one (rest next))
    ∙ ap (λ (g : ℕ). gcd_from g (rest next)) (sym c.if-h-eq1.true) ∙ turn (goal.at.returns-then-h-eq1 c).After-common-h

pub loop-v-preserved : goal.loop-v-preserved
loop-v-preserved c = (turn (goal.at.loop-v-preserved c).After-common-h, c.renewed-m.ensures)
