-- `signed::biased` meets its contract. Assumes nothing.
use Rattle.format.specs.Kit.{ap, ◌∙◌, ℕ}
use Rattle.format.specs.Bytes.{twos, untwos}
use Rattle.laws.proofs.Fits.{size_fits, untwos_twos}
use Rattle.signed.specs.Sign.{biased}
use Rattle.signed.proofs.Signs.{read_back}
use Rattle.signed.proofs.biased.Goals as goal

pub returns : goal.returns
returns c =
    let v = c.args.v in
    let f = c.ranges.v.sfits in
    c.turned.ensures.0 ∙ ap (λ (x : ℕ). biased (untwos x)) (c.bits_of.ensures ∙ ap twos (read_back v f))
    ∙ ap biased (untwos_twos v (size_fits v f))
