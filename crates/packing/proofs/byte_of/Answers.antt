-- `packing::byte_of` meets its contract.
use Rattle.format.specs.Kit.{arith}
use Rattle.packing.proofs.Eighths.{eighths}
use Rattle.packing.proofs.byte_of.Goals as goal

pub overflow_mul-result : goal.overflow_mul-result
overflow_mul-result c = let k = eighths c.args.i c.args.w c.requires.0 in omega arith

pub overflow_add-result : goal.overflow_add-result
overflow_add-result c = let k = eighths c.args.i c.args.w c.requires.0 in rw k.mask (omega arith)

pub returns : goal.returns
returns c = let k = eighths c.args.i c.args.w c.requires.0 in rw k.mask (omega arith)
