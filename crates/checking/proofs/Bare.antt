-- The limits that a judgement asks first. Assumes nothing.
use Rattle.format.specs.Kit.{◌≡◌, ap₂, true, false, List, ℕ, ◌≤◌, ◌<◌, le-leb, lt-leb, and-false}
use Rattle.format.specs.Limits.{power_ok, max_jumps}
use Rattle.format.specs.Refusals.{Outcome, done, refused, need, HEADER}
use Rattle.format.specs.Orders.{Order}
use Rattle.format.specs.Judge.{judge, Verdict, as_verdict, judge_section}

module _ (ord : Order) (p j : ℕ) (s : List ℕ) where
  pub power_outside : power_ok p ≡ false → refused HEADER 0 ≡ judge_section ord p j s
  unfolding judge_section need
  power_outside e = rw e

  pub count_outside : max_jumps < j → refused HEADER 0 ≡ judge_section ord p j s
  unfolding judge_section need
  count_outside h = rw (lt-leb j max_jumps h, and-false (power_ok p))

  pub limits_kept : power_ok p ≡ true → j ≤ max_jumps → (x y : ℕ) → x ≡ p → y ≡ j
      → done (as_verdict (judge ord x y s)) ≡ judge_section ord p j s
  unfolding judge_section need
  limits_kept e h x y ex ey = rw (e, le-leb j max_jumps h) (ap₂ {C = Outcome Verdict} (λ (a b : ℕ). done (as_verdict (judge ord a b s))) ex ey)
