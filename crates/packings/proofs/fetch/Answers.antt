-- `packings::fetch` meets its contract. Assumes nothing.
use Rattle.format.specs.Kit.{◌≡◌, sym, ap, ◌∙◌, List, ℕ, ◌+◌, ◌-◌, ◌*◌, ◌/◌, ◌%◌, ◌≤◌, mul-le-mul, arith, length, take, drop, bit_and, and_mask}
use Rattle.format.specs.Bits.{fetched_bytes}
use Rattle.laws.proofs.Taken.{none_taken, taken_is, at_most_nine}
use Rattle.packings.specs.Packings.{packing_of}
use Rattle.packings.proofs.Packings.{sound_of, reached, fetch_none}
use Rattle.packings.proofs.fetch.Goals as goal
use Rattle.packings.proofs.fetch.Goals.{Start}

narrow : (s : Start) → s.args.w ≤ 64
narrow s = (sound_of s.args.order).narrow s.args.w s.requires.0

-- the product fits
product : (s : Start) → s.args.i * s.args.w ≤ 2147352576 * 64
product s = mul-le-mul {n₁ = s.args.i} {m₁ = s.args.w} {n₂ = 2147352576} {m₂ = 64} s.requires.1 (narrow s)

pub returns-then-w-eq0 : goal.returns-then-w-eq0
returns-then-w-eq0 c =
    let a = c.args in
    let w = c.if-w-eq0.true in (
      sym (ap (λ (w : ℕ). (packing_of a.order).fetch a.s.now w a.i) w ∙ fetch_none a.order a.s.now a.i),
      sym (ap (λ (w : ℕ). fetched_bytes w a.i) w ∙ none_taken a.i),
      omega arith,
    )

-- where the number starts
place : (s : Start) → s.args.i * s.args.w / 8 * 8 + bit_and (s.args.i * s.args.w) 7 ≡ s.args.i * s.args.w
place s = omega (arith, and_mask (s.args.i * s.args.w) 3)

pub number_in-requires : goal.number_in-requires
number_in-requires c =
    let a = c.args in
    let bit : ℕ = a.i * a.w in
    let skip : bit_and bit 7 ≡ bit % 8 = and_mask bit 3 in (
      omega arith,
      omega arith,
      narrow (goal.at.number_in-requires c).Start,
      reached a.order a.w a.i (bit / 8) (bit_and bit 7) c.requires.0 (place (goal.at.number_in-requires c).Start) (omega arith),
      omega (arith, narrow (goal.at.number_in-requires c).Start),
    )

pub returns : goal.returns
returns c =
    let a = c.args in
    let s : List ℕ = a.s.now in
    let w : ℕ = a.w in
    let bit : ℕ = a.i * w in
    let b : ℕ = bit / 8 in
    let n : ℕ = (bit + w + 7) / 8 - b in
    let is : n ≡ fetched_bytes w a.i = omega (arith, taken_is w a.i (omega arith)) in
    let own : length (take n (drop b s)) ≡ n = omega arith in
    let len : length (take n (drop b s)) ≡ fetched_bytes w a.i = own ∙ is in (
      c.number_in.ensures s b a.i (ap (λ (m : ℕ). take m (drop b s)) (sym own)) (omega (arith, own))
          (λ k. (c.type_inv.s k).fits) (place (goal.at.returns c).Start),
      len,
      omega (arith, len, at_most_nine w a.i (narrow (goal.at.returns c).Start)),
    )

pub overflow_mul-bit : goal.overflow_mul-bit
overflow_mul-bit c = omega (arith, product (goal.at.overflow_mul-bit c).Start)

pub overflow_add-end : goal.overflow_add-end
overflow_add-end c = omega (arith, product (goal.at.overflow_add-end c).Start, narrow (goal.at.overflow_add-end c).Start)

pub overflow_add-end-2 : goal.overflow_add-end-2
overflow_add-end-2 c = omega (arith, product (goal.at.overflow_add-end-2 c).Start, narrow (goal.at.overflow_add-end-2 c).Start)
