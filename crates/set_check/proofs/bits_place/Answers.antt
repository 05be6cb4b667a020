-- `set_check::bits_place` meets its contract. Assumes nothing.
use Rattle.format.specs.Kit.{◌∙◌, Bool, ◌%◌, ◌+◌, ◌/◌, ◌^◌, ap, ap₂, arith, eqb, not, ones_in, ℕ}
use Rattle.set_check.proofs.bits_place.Goals as goal

pub returns : goal.returns
returns c =
    let a = c.args in
    let l = c.long_at-long.ensures in
    let o = c.ones_from-before.ensures in
    let u = c.ones_under-under.ensures in (
      ap₂ ◌+◌ o.0 (u.0 ∙ ap (λ (n : ℕ). ones_in 64 (n % 2 ^ (a.r % 64))) l),
      ap {B = Bool} (λ (n : ℕ). not (eqb n 0)) (c.bit_of-there.ensures ∙ ap (λ (n : ℕ). n / 2 ^ (a.r % 64) % 2) l),
      omega (arith, o.1, u.1),
    )
