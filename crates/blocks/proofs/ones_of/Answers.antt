-- `blocks::ones_of` meets its contract. Assumes nothing.
use Rattle.format.specs.Kit.{sym, ◌∙◌, arith, ones-le}
use Rattle.laws.proofs.Ones.{ones_in_lem}
use Rattle.blocks.proofs.ones_of.Goals as goal

pub returns : goal.returns
returns c =
    let w = c.args.w in
    let f = c.ranges.w.fits in
    let e = c.from.ensures in
    (e ∙ sym (ones_in_lem 64 w f), omega (arith, e, ones-le 64 w f), e)
