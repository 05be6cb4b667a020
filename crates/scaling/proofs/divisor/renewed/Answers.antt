-- `scaling::divisor::renewed` meets its contract. Assumes nothing.
use Rattle.format.specs.Kit.{sym, subst, ℕ}
use Rattle.scaling.specs.Reciprocal.{Reciprocal}
use Rattle.scaling.proofs.divisor.renewed.Goals as goal

pub returns-then-h-g : goal.returns-then-h-g
returns-then-h-g c = subst (λ (h : ℕ). Reciprocal h c.args.m) (sym c.if-h-g.true) c.requires
