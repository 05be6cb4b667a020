-- `in_block::ones_under` meets its contract. Assumes nothing.
use Rattle.format.specs.Kit.{ap, ◌∙◌, ℕ, ◌-◌, bit_and, and_mask, ones_in}
use Rattle.in_block.proofs.ones_under.Goals as goal

pub returns : goal.returns
returns c = let a = c.args in (
  c.ones_of.ensures.0 ∙ ap (λ (x : ℕ). ones_in 64 (bit_and a.long (x - 1))) c.pow2.ensures ∙ ap (ones_in 64) (and_mask a.long a.b),
  c.ones_of.ensures.1,
)
