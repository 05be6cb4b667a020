-- Parts that are passed one after the other. Assumes nothing.
use Rattle.format.specs.Kit.{◌≡◌, sym, subst, ℕ, zero, suc, ◌+◌, ◌*◌, ◌≤◌, add-mul, mul-le-mul_right, arith}
use Rattle.laws.proofs.Cases.{below_or}
use Rattle.scaling.specs.Passed.{Passed}

pub passed_none : {P : ℕ → Type 0} (step i : ℕ) → Passed P step i i
passed_none step i = record { parts = 0; ends = omega arith; each = λ j h. absurd (omega arith) }

pub passed_more : {P : ℕ → Type 0} {step from i : ℕ} → Passed P step from i → P i → Passed P step from (i + step)
passed_more {P} {step} {from} {i} p h =
    record {
      parts = p.parts + 1;
      ends = omega (arith, p.ends, add-mul p.parts 1 step);
      each = λ j l.
          below_or j p.parts (p.each j)
          (λ k. let e : j ≡ p.parts = omega arith in subst (λ n. P (from + n * step)) (sym e) (subst P p.ends h));
    }

-- what each part keeps, all of them keep
pub passed_all : {P : ℕ → Type 0} {step from to : ℕ} (Q : ℕ → Type 0) → Passed P step from to → Q from
    → ((i : ℕ) → from ≤ i → i + step ≤ to → P i → Q i → Q (i + step)) → Q to
passed_all {P} {step} {from} {to} Q p start next = subst Q (sym p.ends) (go p.parts (omega arith))
  where
    go : (k : ℕ) → k ≤ p.parts → Q (from + k * step)
    go zero h = let e : from ≡ from + 0 * step = omega arith in subst Q e start
    go (suc k) h =
        let m : (k + 1) * step ≤ p.parts * step = mul-le-mul_right step (omega arith) in
        let a : (k + 1) * step ≡ k * step + step = omega (arith, add-mul k 1 step) in
        let e : from + k * step + step ≡ from + suc k * step = omega arith in
        subst Q e (next (from + k * step) (omega arith) (omega (arith, p.ends)) (p.each k (omega arith)) (go k (omega arith)))
