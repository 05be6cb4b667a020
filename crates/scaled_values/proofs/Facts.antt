-- The header rules on one smallest value, divisor and width, and the fields of a list of values, as plain facts. Assumes nothing.
use Rattle.format.specs.Kit.{◌≡◌, sym, ap, ◌∙◌, true, List, ℕ, ◌+◌, ◌*◌, ◌/◌, ◌^◌, ◌≤◌, ◌<◌, div-le_self, lt_of_le_of_lt, mul-le-mul, arith, leb-true, eqb-true, ℤ, length}
use Rattle.format.specs.Limits.{max_count, max_width}
use Rattle.format.specs.HeaderNumbers.{zigzag}
use Rattle.format.specs.Bits.{packed_bytes}
use Rattle.format.specs.Values.{smallest, spread, divisor}
use Rattle.format.specs.Pairs.{Each, Fits}
use Rattle.format.specs.Codec.{Fields, width_by, scaled}
use Rattle.laws.proofs.Tests.{both_true}
use Rattle.laws.proofs.Bits.{within}
use Rattle.laws.proofs.Bounds as Bounds
use Rattle.laws.proofs.Scaled.{scaled_fields, scaled_rules, width_narrow}
use Rattle.packings.specs.declared.Order.{Order}
use Rattle.packings.specs.Packings.{packing_of}
use Rattle.packings.proofs.Packings.{sound_of}

-- ---- the header rules

pub record Rules (o : Order) (n : ℕ) (f : Fields) (v : ℕ) : Type 0 where
  pub allowed : (packing_of o).width_ok f.width ≡ true
  pub narrow : f.width ≤ max_width
  pub positive : 1 ≤ f.divisor
  pub bytes : v ≡ packed_bytes n f.width

pub rules_kept : (o : Order) (n : ℕ) (f : Fields) (v : ℕ) → (scaled (packing_of o)).fields_ok n f v ≡ true → Rules o n f v
rules_kept o n f v e =
    let b = both_true _ _ (sym (scaled_rules (packing_of o) n f v) ∙ e) in
    let a = both_true _ _ b.0 in
    record { allowed = a.0; narrow = (sound_of o).narrow f.width a.0; positive = leb-true _ _ a.1; bytes = eqb-true _ _ b.1 }

-- a number of the n is within the section
pub inside : {o : Order} {n : ℕ} {f : Fields} (s : List ℕ) → Rules o n f (length s) → (i : ℕ) → i < n → i * f.width + f.width ≤ 8 * length s
inside {o} {n} {f} s r i h = omega (arith, within i f.width n h, r.bytes)

-- and its bits begin before the count of bits can wrap
pub few_bits : {o : Order} {n : ℕ} {f : Fields} {v i : ℕ} → Rules o n f v → n ≤ max_count → i ≤ n → i * f.width < 2 ^ 64
few_bits {o} {n} {f} {v} {i} r few k =
    omega (arith, mul-le-mul {n₁ = i} {m₁ = f.width} {n₂ = 2147352576} {m₂ = 64} (omega (arith, k, few)) r.narrow)

-- ---- the fields of a list

pub spread_over : (vs : List ℤ) → Each Fits vs → spread vs / divisor vs < 2 ^ 64
spread_over vs t = lt_of_le_of_lt (div-le_self (spread vs) (divisor vs)) (Bounds.spread_lt vs t)

pub record FieldsOf (o : Order) (vs : List ℤ) (f : Fields) : Type 0 where
  pub width_is : f.width ≡ width_by (packing_of o) vs
  pub smallest_is : f.smallest ≡ zigzag (smallest vs)
  pub divisor_is : f.divisor ≡ divisor vs
  pub narrow : f.width ≤ max_width
  pub positive : 1 ≤ f.divisor

pub fields_are : (o : Order) (vs : List ℤ) (f : Fields) → f ≡ (scaled (packing_of o)).fields vs → Each Fits vs → FieldsOf o vs f
fields_are o vs f e t =
    let p = e ∙ scaled_fields (packing_of o) vs in
    let w : f.width ≡ width_by (packing_of o) vs = ap (λ (k : Fields). k.width) p in
    let d : f.divisor ≡ divisor vs = ap (λ (k : Fields). k.divisor) p in
    record {
      width_is = w;
      smallest_is = ap (λ (k : Fields). k.smallest) p;
      divisor_is = d;
      narrow = omega (arith, w, width_narrow (sound_of o) (spread vs / divisor vs) (spread_over vs t));
      positive = omega (arith, (Bounds.divisor_is vs t).0);
    }
