-- `packings::window` meets its contract. Assumes nothing.
use Rattle.format.specs.Kit.{◌≡◌, ap, ◌∙◌, ℕ, ◌+◌, ◌*◌, add-mul, arith}
use Rattle.format.specs.Bits.{bit_at, gather, fetched}
use Rattle.format.specs.BitsLow.{bit_low_at, gather_low, fetched_low}
use Rattle.format.specs.Editions.{high_first, low_first}
use Rattle.packings.proofs.window.Goals as goal

-- number i + k starts k numbers after number i
on : (i k w at skip : ℕ) → at * 8 + skip ≡ i * w → at * 8 + skip + k * w ≡ (i + k) * w
on i k w at skip e = omega (arith, add-mul i k w)

pub returns-in-High : goal.returns-in-High
unfolding high_first fetched
returns-in-High c =
    let a = c.args in
    rw c.in-High.is
    (λ w i k e h. c.window.ensures (k * w) w h ∙ ap (λ (j : ℕ). gather (bit_at a.s.now) j w) (on i k w a.at a.skip e))

pub returns-in-Low : goal.returns-in-Low
unfolding low_first fetched_low
returns-in-Low c =
    let a = c.args in
    rw c.in-Low.is
    (λ w i k e h. c.window-in-Low.ensures (k * w) w h ∙ ap (λ (j : ℕ). gather_low (bit_low_at a.s.now) j w) (on i k w a.at a.skip e))
