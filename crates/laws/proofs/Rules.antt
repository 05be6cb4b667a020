-- The header's test taken apart: each rule as a plain fact. Assumes nothing.
use Rattle.format.specs.Kit.{◌≡◌, refl, Bool, true, false, ◌&&◌, ◌||◌, ℕ, arith, leb, eqb, leb-true, le-leb, eqb-true, eq-eqb}
use Rattle.format.specs.Limits.{min_power, max_power, power_ok, Power}
use Rattle.format.specs.Column.{Head}
use Rattle.format.specs.Opening.{head_ok}
use Rattle.format.specs.Rules.{HeadFacts}
use Rattle.laws.proofs.Cases.{equal_or}
use Rattle.laws.proofs.Tests.{both_true, true_both, or_left, or_right}

-- ---- a rank power, by its test and as a fact

pub power_fact : (p : ℕ) → power_ok p ≡ true → Power p
power_fact p e = by (eqb p 0) refl e
  where
    by : (z : Bool) → eqb p 0 ≡ z → (z || (leb min_power p && leb p max_power)) ≡ true → Power p
    by true ez t = let q : p ≡ 0 = eqb-true p 0 ez in record { most = omega arith; least = λ n. absurd (n q) }
    by false ez t =
        let b = both_true (leb min_power p) (leb p max_power) t in
        record { most = leb-true p max_power b.1; least = λ n. leb-true min_power p b.0 }

pub power_true : (p : ℕ) → Power p → power_ok p ≡ true
power_true p f =
    equal_or p 0
    (λ e. or_left (eqb p 0) _ (eq-eqb p 0 e))
    (λ n. or_right (eqb p 0) _ (true_both _ _ (le-leb min_power p (f.least n)) (le-leb p max_power f.most)))

-- ---- the header

pub head_facts : (h : Head) → head_ok h ≡ true → HeadFacts h
unfolding head_ok
head_facts h e =
    let f = both_true _ _ e in
    let s = both_true _ _ f.0 in
    let j = both_true _ _ s.0 in
    let p = both_true _ _ j.0 in
    record {
      count = leb-true _ _ p.0;
      power = power_fact h.power p.1;
      jumps = leb-true _ _ j.1;
      ids = leb-true _ _ s.1;
      fields = f.1;
    }
