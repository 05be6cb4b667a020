-- `scaled_values::slots::whole` meets its contract. Assumes nothing.
use Rattle.format.specs.Kit.{ap, ℕ}
use Rattle.scaled_values.proofs.slots.whole.Goals as goal
use Rattle.std.specs.Prelude.{Some}

pub returns : goal.returns
returns c =
    let a = c.args in
    (ap (λ (m : ℕ). Some (record { start = 0; width = a.width; index = a.i; low = m })) c.biased_of.ensures, c.ranges.smallest.fits)
