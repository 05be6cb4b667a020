-- `table_values::value_of` meets its contract. Assumes nothing.
use Rattle.format.specs.Kit.{◌≡◌, sym, ap, ◌∙◌, subst, some, ◌*◌, lt-ltb, arith, ℤ, rules}
use mir.Syntax.{w64}
use mir.Val.{to_z, of_z}
use mir.Facts.{to_z-of_z}
use Rattle.format.specs.Bytes.{low_at, untwos}
use Rattle.format.specs.Pairs.{Fits}
use Rattle.laws.proofs.Fits.{size_fits}
use Rattle.laws.proofs.Scaled.{signed_some}
use Rattle.table_values.proofs.value_of.Goals as goal

pub returns : goal.returns
returns c =
    let a = c.args in
    let z : ℤ = c.entry.result in
    let u : ℤ = untwos (low_at 8 a.section.now (8 * a.code)) in
    let same : to_z w64 (of_z w64 z) ≡ u = to_z-of_z {w = w64} {z = z} (search rules) ∙ c.entry.ensures in
    let fit : Fits z = size_fits z (search rules) in
    ap (λ (v : ℤ). some v) same
    ∙ sym (rw (lt-ltb a.code a.t (omega (arith, c.if-code-t.false))) (signed_some u (subst Fits c.entry.ensures fit)))
