-- `scaled_reader::put_part` meets its contract. Assumes nothing.
use Rattle.format.specs.Kit.{sym, ap, subst, ◌∙◌, ℕ, ◌+◌, ◌*◌, ◌^◌, ◌<◌, ℤ, set, rules}
use mir.Syntax.{w64}
use mir.Facts.{to_z-of_z}
use Rattle.signed.specs.Sign.{unbiased}
use Rattle.scaled_reader.proofs.put_part.Goals as goal

pub value_from-v-requires : goal.value_from-v-requires
value_from-v-requires c =
    subst (λ (y : ℕ). c.args.low + y * c.args.divisor < 2 ^ 64) (sym c.part.ensures) c.requires.3

pub returns : goal.returns
returns c =
    let a = c.args in
    let e = ap (λ (y : ℕ). unbiased (a.low + y * a.divisor)) c.part.ensures in
    let v = to_z-of_z {w = w64} {z = c.value_from-v.result} (search rules) ∙ c.value_from-v.ensures ∙ e in
    ap (λ (z : ℤ). set a.values.now a.i z) v
