-- `scaled_check::Numbers::steady_end` meets its contract. Assumes nothing.
use Rattle.format.specs.Kit.{◌≡◌, refl, subst, ◌∙◌, Bool, ℕ, ◌+◌, ◌-◌, arith, rules}
use Rattle.answers.specs.Replies.{fields_of}
use Rattle.scaling.proofs.Kept.{passed_all}
use Rattle.scaled_check.specs.Numbered.{ok_from}
use Rattle.scaled_check.proofs.Numbers.steady_end.Goals as goal

pub returns : goal.returns
returns c =
    let a = c.args.self.now in
    let old = c.args.old in
    let ok : ℕ → ℕ → Bool = λ i y. ok_from a.order a.n (fields_of a.fields) a.section.now i old.lo y old.common in
    let h : old.lo + (old.hi - old.lo) ≡ old.hi = omega (arith, c.if-old.false) in (
      c.passed.ensures.0,
      omega (arith, c.passed.ensures.1),
      passed_all (λ i. ok i old.hi ≡ ok c.args.from old.hi) c.passed.ensures.2 refl
          (λ i p q k e.
          let s : ok (i + 32) (old.lo + (old.hi - old.lo)) ≡ ok i (old.lo + (old.hi - old.lo)) = search rules in
          subst (λ (y : ℕ). ok (i + 32) y ≡ ok i y) h s ∙ e),
    )
