-- `run_check::divisor_ok` meets its contract. Assumes nothing.
use Rattle.format.specs.Kit.{◌≡◌, sym, ◌∙◌, ℕ, ◌%◌, ◌/◌, eq-eqb, ne_eqb}
use Rattle.format.specs.Values.{gcd}
use Rattle.run_check.specs.RunsOk.{divisor_ok}
use Rattle.run_check.proofs.divisor_ok.Goals as goal
use Rattle.run_check.proofs.divisor_ok.Goals.{Else-c-eq1}

pub returns-then-apart-g-ne0 : goal.returns-then-apart-g-ne0
unfolding divisor_ok
returns-then-apart-g-ne0 c = let a = c.args in rw (ne_eqb (a.apart % a.g) 0 c.if-apart-g-ne0.true)

pub returns-then-c-eq1 : goal.returns-then-c-eq1
unfolding divisor_ok
returns-then-c-eq1 c =
    let a = c.args in
    rw (eq-eqb (a.apart % a.g) 0 c.if-apart-g-ne0.false, eq-eqb (gcd (a.apart / a.g) a.d) 1 (sym c.gcd-c.ensures ∙ c.if-c-eq1.true))

-- it is not 1
not_one : (c : Else-c-eq1) → gcd (c.args.apart / c.args.g) c.args.d ≡ 1 → ⊥
not_one c e = c.if-c-eq1.false (c.gcd-c.ensures ∙ e)

pub returns-then-c-ne0 : goal.returns-then-c-ne0
unfolding divisor_ok
returns-then-c-ne0 c =
    let a = c.args in
    let n : ℕ = gcd (a.apart / a.g) a.d in
    rw (eq-eqb (a.apart % a.g) 0 c.if-apart-g-ne0.false, ne_eqb n 1 (not_one (goal.at.returns-then-c-ne0 c).Else-c-eq1), ne_eqb n 0 (λ e. c.if-c-ne0.true (c.gcd-c.ensures ∙ e)))

pub returns : goal.returns
unfolding divisor_ok
returns c =
    let a = c.args in
    let n : ℕ = gcd (a.apart / a.g) a.d in
    rw (eq-eqb (a.apart % a.g) 0 c.if-apart-g-ne0.false, ne_eqb n 1 (not_one (goal.at.returns c).Else-c-eq1), eq-eqb n 0 (sym c.gcd-c.ensures ∙ c.if-c-ne0.false))
