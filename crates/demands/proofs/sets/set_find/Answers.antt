-- `demands::sets::set_find` meets its contract. Assumes nothing.
use Rattle.format.specs.Kit.{sym, ◌∙◌, subst}
use Rattle.format.specs.Pairs.{Below}
use Rattle.laws.proofs.Digits.{below_all}
use Rattle.set_format.proofs.Demands.{checked_finds}
use Rattle.demands.specs.Tables.{SetFindSays}
use Rattle.demands.proofs.Tables.{set_find_says}
use Rattle.demands.proofs.sets.set_find.Goals as goal

pub returns : goal.returns
returns c =
    let a = c.args in
    let b = a.bytes.now in
    let u : Below 256 b = below_all 256 b (λ i. (c.type_inv.bytes i).fits) in
    let e = c.set_find.ensures in
    record { says = subst (SetFindSays b a.id) (sym e) (set_find_says b u a.id); finds = λ n x h. e ∙ checked_finds b n x a.id h }
