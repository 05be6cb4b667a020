-- `packing::met` meets its contract. Assumes nothing.
use Rattle.format.specs.Kit.{ap₂, ◌∙◌, bit_or}
use Rattle.packing.proofs.Touched.{or_ends}
use Rattle.packing.proofs.met.Goals as goal

pub returns : goal.returns
returns c n u v h p q = ap₂ bit_or p q ∙ or_ends n u v h
