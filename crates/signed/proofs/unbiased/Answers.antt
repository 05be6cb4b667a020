-- `signed::unbiased` meets its contract. Assumes nothing.
use Rattle.format.specs.Kit.{sym, ap, ◌∙◌, ℤ}
use mir.Syntax.{w64}
use mir.Val.{to_z, of_z}
use Rattle.signed.specs.Sign.{unbiased}
use Rattle.signed.proofs.Signs.{read_back, bits_twos, unbiased_size}
use Rattle.signed.proofs.unbiased.Goals as goal

pub returns : goal.returns
returns c =
    let x = c.args.x in
    let small = unbiased_size x c.ranges.x.fits in
    let e = c.cast_signed.ensures ∙ ap (to_z w64) (c.turned.ensures.1 ∙ sym (bits_twos (unbiased x))) ∙ read_back (unbiased x) small in
    ap (λ (z : ℤ). to_z w64 (of_z w64 z)) e ∙ read_back (unbiased x) small
