-- `layered_reading::stopped` meets its contract. Assumes nothing.
use Rattle.format.specs.Kit.{ℕ, refl, ap}
use Rattle.layered_reading.proofs.stopped.Goals as goal
use Rattle.std.specs.Prelude.{Ok}
use Rattle.answers.specs.declared.Readout as Ro

pub returns-then-i-eq0 : goal.returns-then-i-eq0
returns-then-i-eq0 c = (λ z. refl, λ z. absurd (z c.if-i-eq0.true))

pub returns : goal.returns
returns c = (λ z. absurd (c.if-i-eq0.false z), λ z. ap (λ (n : ℕ). Ok (Ro.Readout.More n)) c.long.ensures)
