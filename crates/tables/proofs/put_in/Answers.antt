-- `tables::put_in` meets its contract. Assumes nothing.
use Rattle.format.specs.Kit.{◌≡◌, ◌∙◌, rules}
use mir.Syntax.{w64}
use mir.Val.{to_z, of_z}
use mir.Facts.{to_z-of_z}
use Rattle.signed.specs.Sign.{unbiased}
use Rattle.tables.proofs.PutIn.{moved_up}
use Rattle.tables.proofs.put_in.Goals as goal

pub returns : goal.returns
returns c =
    let e : to_z w64 (of_z w64 c.unbiased.result) ≡ unbiased c.args.b = to_z-of_z {w = w64} {z = c.unbiased.result} (search rules) ∙ c.unbiased.ensures
    in
    rw (e, c.copy_within.ensures.after) (moved_up _ _ _ _ c.requires.0 c.requires.1)
