-- `packings::near` meets its contract. Assumes nothing.
use Rattle.format.specs.Kit.{◌≡◌, ap, ◌∙◌, ℕ, ◌+◌, ◌-◌, ◌*◌, ◌/◌, ◌%◌, ◌^◌, arith}
use Rattle.format.specs.Bits.{bit_at, gather, fetched}
use Rattle.format.specs.BitsLow.{bit_low_at, gather_low, fetched_low}
use Rattle.format.specs.Editions.{high_first, low_first}
use Rattle.laws.proofs.Bits.{gather_part, bit_at_lt}
use Rattle.low_packing.proofs.Words.{part_low}
use Rattle.packings.proofs.near.Goals as goal

pub returns-in-High : goal.returns-in-High
unfolding high_first fetched
returns-in-High c =
    let a = c.args in
    let f = bit_at a.s.now in
    let t : a.skip + a.w + (64 - a.skip - a.w) ≡ 64 = omega (arith, c.requires.1) in
    rw c.in-High.is
    (λ i e.
    c.middle.ensures ∙ ap (λ (x : ℕ). x / 2 ^ (64 - a.skip - a.w) % 2 ^ a.w) c.eight_at.ensures
    ∙ gather_part f (bit_at_lt a.s.now) (a.at * 8) a.skip a.w (64 - a.skip - a.w) 64 t
    ∙ ap (λ (j : ℕ). gather f j a.w) e)

pub returns-in-Low : goal.returns-in-Low
unfolding low_first fetched_low
returns-in-Low c =
    let a = c.args in
    rw c.in-Low.is
    (λ i e.
    c.part.ensures
    ∙ part_low a.s.now a.at 8 a.skip a.w _ (λ k. (c.type_inv.s k).fits) c.requires.2 c.requires.1
    c.long_at.ensures
    ∙ ap (λ (j : ℕ). gather_low (bit_low_at a.s.now) j a.w) e)
