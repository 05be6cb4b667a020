-- `signed::bits_of` meets its contract. Assumes nothing.
use Rattle.format.specs.Kit.{ap, ◌∙◌}
use mir.Syntax.{w64}
use mir.Val.{of_z}
use Rattle.signed.proofs.Signs.{read_back, bits_twos}
use Rattle.signed.proofs.bits_of.Goals as goal

pub returns : goal.returns
returns c = let v = c.args.v in c.cast_unsigned.ensures ∙ ap (of_z w64) (read_back v c.ranges.v.sfits) ∙ bits_twos v
