-- `packing::joined` meets its contract: nothing is shifted out, and the two numbers have no bit in common.
use Rattle.format.specs.Kit.{ap, ◌∙◌, ℕ, mod-eq_of_lt, bit_or, or_shifted}
use Rattle.packing.proofs.joined.Goals as goal

-- Assumes nothing.
pub returns : goal.returns
returns c =
    ap (λ (x : ℕ). bit_or x c.args.part) (mod-eq_of_lt c.requires.2) ∙ or_shifted c.args.acc c.args.n c.args.part c.requires.1
