-- `page::fetching::plain_number` meets its contract. Assumes nothing.
use Rattle.format.specs.Kit.{◌≡◌, sym, ap, ◌∙◌, ℕ, ◌+◌, ◌-◌, ◌*◌, ◌/◌, ◌%◌, ◌^◌, ◌≤◌, ◌<◌, mul-le-mul, arith, length, bit_and, and_mask, ltb-true, leb-true}
use Rattle.format.specs.Bits.{bit_at, gather, fetched}
use Rattle.format.specs.Editions.{high_first}
use Rattle.laws.proofs.Bits.{gather_part, bit_at_lt}
use Rattle.laws.proofs.Tests.{both_true}
use Rattle.packings.specs.declared.Order.{Order}
use Rattle.packings.proofs.Packings.{sound_of}
use Rattle.page.proofs.fetching.plain_number.Goals as goal
use Rattle.page.proofs.fetching.plain_number.Goals.{Start, Then-by_eight}

narrow : (s : Start) → s.args.w ≤ 64
narrow s = (sound_of Order.High).narrow s.args.w s.requires.0

product : (s : Start) → s.args.i * s.args.w ≤ 2147352576 * 64
product s = mul-le-mul {n₁ = s.args.i} {m₁ = s.args.w} {n₂ = 2147352576} {m₂ = 64} s.requires.1 (narrow s)

-- where the number starts
place : (s : Start) → s.args.i * s.args.w / 8 * 8 + bit_and (s.args.i * s.args.w) 7 ≡ s.args.i * s.args.w
place s = omega (arith, and_mask (s.args.i * s.args.w) 3)

-- eight bytes are there, and hold it
eight : (c : Then-by_eight) → let a = c.args in (0 < a.w) × (a.w ≤ 57) × (a.i * a.w / 8 + 8 ≤ length a.s.now)
eight c =
    let t = both_true _ _ (sym c.by_eight.ensures ∙ c.if-by_eight.true) in
    let u = both_true _ _ t.0 in
    (ltb-true _ _ u.0, leb-true _ _ u.1, leb-true _ _ t.1)

pub returns-then-by_eight : goal.returns-then-by_eight
unfolding high_first fetched
returns-then-by_eight c =
    let a = c.args in
    let f = bit_at a.s.now in
    let bit : ℕ = a.i * a.w in
    let skip : ℕ = bit_and bit 7 in
    let t : skip + a.w + (64 - skip - a.w) ≡ 64 = omega (arith, and_mask bit 3, (eight (goal.at.returns-then-by_eight c).Then-by_eight).1) in
    c.middle.ensures ∙ ap (λ (x : ℕ). x / 2 ^ (64 - skip - a.w) % 2 ^ a.w) c.eight_at.ensures
    ∙ gather_part f (bit_at_lt a.s.now) (bit / 8 * 8) skip a.w (64 - skip - a.w) 64 t
    ∙ ap (λ (j : ℕ). gather f j a.w) (place (goal.at.returns-then-by_eight c).Start)

pub overflow_mul-bit : goal.overflow_mul-bit
overflow_mul-bit c = omega (arith, product (goal.at.overflow_mul-bit c).Start)

pub by_eight-requires : goal.by_eight-requires
by_eight-requires c = omega (arith, product (goal.at.by_eight-requires c).Start)
