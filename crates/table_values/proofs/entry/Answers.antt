-- `table_values::entry` meets its contract. Assumes nothing.
use Rattle.format.specs.Kit.{ap, ◌∙◌, ◌^◌, ◌<◌, ℕ, rules}
use mir.Syntax.{w64}
use mir.Facts.{to_z-of_z}
use Rattle.format.specs.Bytes.{untwos}
use Rattle.laws.proofs.Fits.{untwos_fits, fits_size}
use Rattle.signed.specs.Sign.{unbiased}
use Rattle.signed.proofs.Signs.{unbiased_biased}
use Rattle.table_values.proofs.entry.Goals as goal

pub returns : goal.returns
returns c =
    let x : ℕ = c.long_at.result in
    let small : x < 2 ^ 64 = search rules in
    to_z-of_z {w = w64} {z = c.unbiased.result} (search rules) ∙ c.unbiased.ensures ∙ ap unbiased c.turned.ensures.0
    ∙ unbiased_biased (untwos x) (fits_size (untwos x) (untwos_fits x small)) ∙ ap untwos c.long_at.ensures
