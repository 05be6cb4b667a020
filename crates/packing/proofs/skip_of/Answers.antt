-- `packing::skip_of` meets its contract.
use Rattle.format.specs.Kit.{◌*◌, ◌%◌, arith, and_mask}
use Rattle.packing.proofs.Eighths.{eighths}
use Rattle.packing.proofs.skip_of.Goals as goal

-- Assumes nothing.
pub returns : goal.returns
returns c =
    let k = eighths c.args.i c.args.w c.requires in
    rw k.mask (omega (arith, and_mask (c.args.i % 8 * c.args.w) 3))
