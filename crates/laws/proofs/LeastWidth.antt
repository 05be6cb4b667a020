-- Document 02, [13]: the width can't be beaten. Whatever start and step the values are steps of, (max - min) / g is below 2 ^ u, and the w
-- of each edition is the least of its widths for that. For all whole numbers, within 64 bits or not. Assumes nothing.
use Rattle.format.specs.Kit.{◌≡◌, refl, sym, ap, ◌∙◌, subst, List, [], ◌∷◌, ℕ, suc, ◌+◌, ◌-◌, ◌*◌, ◌/◌, ◌^◌, ◌<◌, ◌≤◌, ◌∣◌, dvd-mul_left, le_of_dvd}
use Rattle.format.specs.Kit.{div-lt_iff_lt-mul, lt_of_le_of_lt, lt_of_lt_of_le, mul-le-mul, mul_comm, suc-mul, zero-div, pow_pos, pow_mono, arith}
use Rattle.format.specs.Kit.{true, T, le→leb, lt-ltb, le-ltb, le_refl, ℤ, pos, negsuc, nat_abs, ◌+ℤ◌, ◌-ℤ◌, +ℤ_comm, +ℤ-neg_ℤ_cancel, le_z}
use Rattle.format.specs.Values.{smallest, over, spread, divisor, value_at}
use Rattle.format.specs.Steps.{InSteps}
use Rattle.format.specs.Pairs.{Each, Fits}
use Rattle.format.specs.Codec.{scaled}
use Rattle.format.specs.Editions.{plain, lucene, high_first, low_first, lucene_widths, among, codec}
use Rattle.laws.proofs.Cases.{below_or, equal_or}
use Rattle.laws.proofs.Values.{each_map, each_two, smallest_each, smallest_has, spread_each, over_add, dvd_between, divides_each}
use Rattle.laws.proofs.Values.{value_back, div_le_div, bit_length_lem, bit_length_le}
use Rattle.laws.proofs.Bounds.{divisor_pos}
use Rattle.laws.proofs.Widths.{lucene_least, lucene_narrow}
use Rattle.laws.proofs.Editions.{lucene_width}
use Rattle.laws.proofs.MeaningValues.{AllEqual, equal_spread, greatest_has, divided_by_differences}

-- ---- a value above a start

up_le : (a : ℤ) (n : ℕ) → T (le_z a (a +ℤ pos n))
up_le (pos a) n = le→leb a (a + n) (omega arith)
up_le (negsuc a) n =
    below_or n (suc a)
    (λ h. rw (lt-ltb n (suc a) h) (le→leb (suc a - suc n) a (omega arith)))
    (λ h. rw (le-ltb n (suc a) h) tt)

up_over : (a : ℤ) (n : ℕ) → over a (a +ℤ pos n) ≡ n
up_over a n = ap nat_abs (ap (λ (z : ℤ). z -ℤ a) (+ℤ_comm a (pos n)) ∙ +ℤ-neg_ℤ_cancel (pos n) a)

-- ---- steps from any start

-- what one value tells
record Above (start : ℤ) (step u : ℕ) (v : ℤ) : Type 0 where
  pub up : T (le_z start v)
  pub divided : step ∣ over start v
  pub near : over start v < 2 ^ u * step

module _ (start : ℤ) (step u : ℕ) where
  is_above : 0 < step → (v : ℤ) → (x : ℕ) × (x < 2 ^ u) × (value_at start step x ≡ v) → Above start step u v
  unfolding value_at
  is_above h v t =
      let x : ℕ = t.0 in
      let gap : over start (value_at start step x) ≡ x * step = up_over start (step * x) ∙ mul_comm step x in
      subst (Above start step u) t.2
      (record {
        up = up_le start (step * x);
        divided = subst (λ (n : ℕ). step ∣ n) (sym gap) (dvd-mul_left step x);
        near = omega (arith, gap, suc-mul x step, mul-le-mul t.1 (le_refl step));
      })

  -- with one value at least the greatest is less than 2 ^ u steps from the smallest
  spread_near : (v : ℤ) (vs : List ℤ) → Each (Above start step u) (v ∷ vs) → spread (v ∷ vs) < 2 ^ u * step
  unfolding spread
  spread_near v vs t =
      let m : ℤ = smallest (v ∷ vs) in
      let low : Above start step u m = smallest_has (Above start step u) v vs t in
      greatest_has (λ a. over m a < 2 ^ u * step) v vs
      (each_two (λ a s k. lt_of_le_of_lt (omega (arith, over_add start m a low.up k)) s.near) (v ∷ vs) t (smallest_each (v ∷ vs)))

  -- and the step is at most g, unless all values are equal
  step_le : (vs : List ℤ) → (AllEqual vs → ⊥) → Each (Above start step u) vs → step ≤ divisor vs
  step_le vs k t =
      le_of_dvd (divisor_pos vs)
      (divided_by_differences vs step k
      (each_map (λ a s. each_map (λ b r. dvd_between step start a b s.divided r.divided) vs t) vs t))

-- no start and no step bring the values closer together than the smallest value and g do
pub in_reach : (vs : List ℤ) (start : ℤ) (step u : ℕ) → InSteps start step u vs → spread vs / divisor vs < 2 ^ u
in_reach vs start step u s =
    equal_or (spread vs) 0
    (λ e. rw (e, zero-div) (pow_pos u))
    (λ e. (div-lt_iff_lt-mul (divisor_pos vs)).1 (apart vs (λ a. e (equal_spread vs a)) (each_map (is_above start step u s.positive) vs s.each)))
  where
    apart : (l : List ℤ) → (AllEqual l → ⊥) → Each (Above start step u) l → spread l < 2 ^ u * divisor l
    apart [] k t = absurd (k tt)
    apart (v ∷ l) k t = lt_of_lt_of_le (spread_near start step u v l t) (mul-le-mul (le_refl (2 ^ u)) (step_le start step u (v ∷ l) k t))

-- and these do, at every width that holds (max - min) / g
pub reached : (vs : List ℤ) (w : ℕ) → spread vs / divisor vs < 2 ^ w → InSteps (smallest vs) (divisor vs) w vs
reached vs w h =
    let m : ℤ = smallest vs in
    let g : ℕ = divisor vs in
    record {
      positive = divisor_pos vs;
      each =
          each_two (λ v b k. (over m v / g, lt_of_le_of_lt (div_le_div k (divisor_pos vs)) h, b)) vs
          (each_two (value_back m g) vs (smallest_each vs) (divides_each vs)) (spread_each vs);
    }

-- all values equal, or none: steps of width 0
pub equal_steps : (vs : List ℤ) → AllEqual vs → InSteps (smallest vs) (divisor vs) 0 vs
equal_steps vs t = reached vs 0 (rw (equal_spread vs t, zero-div) (pow_pos 0))

-- ---- edition 1: its w is the least of all widths

pub plain_unbeaten : (vs : List ℤ) (start : ℤ) (step u : ℕ) → InSteps start step u vs → ((codec plain).fields vs).width ≤ u
unfolding codec scaled high_first
plain_unbeaten vs start step u s = bit_length_le (spread vs / divisor vs) u (in_reach vs start step u s)

pub plain_reached : (vs : List ℤ) → InSteps (smallest vs) (divisor vs) ((codec plain).fields vs).width vs
unfolding codec scaled high_first
plain_reached vs = reached vs _ (bit_length_lem (spread vs / divisor vs))

pub plain_equal : (vs : List ℤ) → AllEqual vs → ((codec plain).fields vs).width ≡ 0
plain_equal vs t = omega (arith, plain_unbeaten vs (smallest vs) (divisor vs) 0 (equal_steps vs t))

-- ---- edition 2: its w is the least of its list, which has 0

pub lucene_unbeaten : (vs : List ℤ) (start : ℤ) (step u : ℕ) → among lucene_widths u ≡ true → InSteps start step u vs → ((codec lucene).fields vs).width ≤ u
unfolding codec scaled low_first
lucene_unbeaten vs start step u a s =
    let h : spread vs / divisor vs < 2 ^ u = in_reach vs start step u s in
    (lucene_least (spread vs / divisor vs) (lt_of_lt_of_le h (pow_mono (lucene_narrow u a)))).least u a h

-- for values of 64 bits: its list ends at 64
pub lucene_reached : (vs : List ℤ) → Each Fits vs → InSteps (smallest vs) (divisor vs) ((codec lucene).fields vs).width vs
lucene_reached vs t = reached vs _ (lucene_width vs t).suffices

pub lucene_equal : (vs : List ℤ) → AllEqual vs → ((codec lucene).fields vs).width ≡ 0
unfolding lucene_widths among
lucene_equal vs t = omega (arith, lucene_unbeaten vs (smallest vs) (divisor vs) 0 refl (equal_steps vs t))
