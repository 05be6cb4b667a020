-- `scaling::divisor::multiples` meets its contract. Assumes nothing.
use Rattle.format.specs.Kit.{◌≡◌, sym, ap, ◌∙◌, ℕ, ◌+◌, ◌-◌, arith, rules}
use Rattle.format.specs.Values.{gcd}
use Rattle.scaling.specs.Scaled.{gcd_at}
use Rattle.scaling.proofs.Part.{ValueAt, value_at}
use Rattle.scaling.proofs.Spread.{low_at, gcd_more}
use Rattle.scaling.proofs.divisor.multiples.Goals as goal
use Rattle.scaling.proofs.divisor.multiples.Goals.{After-biased}

value : (c : After-biased) → ValueAt c.args.values.now (c.args.from + c.loop-v.v-index) c.biased.result
value c = value_at _ _ _ _ _ c.loop-v-test.true (search rules) c.biased.ensures

pub over-requires : goal.over-requires
over-requires c = low_at c.requires.0 c.requires.1 (value c)

pub loop-v-preserved : goal.loop-v-preserved
loop-v-preserved c =
    let a = c.args in
    let j = c.joined-seen.ensures in
    let next : ℕ = a.from + (c.loop-v.v-index + 1) in
    λ z.
    let k : gcd a.g (c.biased.result - a.low) ≡ a.g = ap (gcd a.g) (sym c.over.ensures) ∙ c.unlike.ensures (omega (arith, j.1, z)) in
    ap (λ (h : ℕ). gcd_at h next a.values.now) (sym k)
    ∙ sym (gcd_more a.g c.requires.0 c.requires.1 (value (goal.at.loop-v-preserved c).After-biased) (omega arith)) ∙ c.loop-v.invariant (omega (arith, j.0, z))
