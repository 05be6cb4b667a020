-- `scaling::parts::joined` meets its contract: a number joined to another loses no bit. Assumes nothing.
use Rattle.format.specs.Kit.{arith}
use lib.Bits.{and_le_l, and_le_r, or_add_and}
use Rattle.scaling.proofs.parts.joined.Goals as goal

pub returns : goal.returns
returns c =
    let a = c.args in
    let e = or_add_and a.a a.b in
    (omega (arith, e, and_le_r a.a a.b), omega (arith, e, and_le_l a.a a.b))
