-- `scaling::bounds::ends_of` meets its contract. Assumes nothing.
use Rattle.format.specs.Kit.{◌≡◌, ap, ◌∙◌, subst, ◌<◌, ◌^◌, rules, ℤ, pos, get_or, mag}
use Rattle.signed.specs.Sign.{biased}
use Rattle.signed.proofs.Signs.{read_back}
use Rattle.scaling.specs.Scaled.{EndsAt}
use Rattle.scaling.proofs.Extremes.{ends_start, ends_done}
use Rattle.scaling.proofs.Kept.{passed_all}
use Rattle.scaling.proofs.bounds.ends_of.Goals as goal

pub loop-i-init : goal.loop-i-init
loop-i-init c =
    let v = c.unwrap_or.result in
    let e : v ≡ get_or c.args.values.now 0 (pos 0) = search rules in
    ends_start c.args.values.now c.biased-first.result
    (c.biased-first.ensures ∙ ap biased (read_back v c.unwrap_or.type_inv ∙ e)) (subst (λ (z : ℤ). mag z < 2 ^ 63) e c.unwrap_or.type_inv)

pub loop-i-preserved : goal.loop-i-preserved
loop-i-preserved c =
    passed_all (λ i. EndsAt c.args.values.now i c.widened-ends.result.low c.widened-ends.result.high) c.passed-i.ensures.2
    c.widened-ends.ensures (λ i a b p q. search rules)

pub returns : goal.returns
returns c = ends_done c.loop-i.invariant c.loop-i-test.false
