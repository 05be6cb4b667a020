-- `demands::sets::set_check` meets its contract. Assumes nothing.
use Rattle.format.specs.Kit.{sym, ◌∙◌, subst}
use Rattle.format.specs.Pairs.{Below}
use Rattle.laws.proofs.Digits.{below_all}
use Rattle.set_format.proofs.Demands.{accepts_sets, sets_accepted}
use Rattle.demands.specs.Tables.{SetCheckSays}
use Rattle.demands.proofs.Tables.{set_check_says}
use Rattle.demands.proofs.Writing.{one_set}
use Rattle.demands.proofs.sets.set_check.Goals as goal

pub returns : goal.returns
returns c =
    let a = c.args in
    let b = a.bytes.now in
    let u : Below 256 b = below_all 256 b (λ i. (c.type_inv.bytes i).fits) in
    let e = c.set_check.ensures in record { says = subst (SetCheckSays b) (sym e) (set_check_says b u); accepts = λ n. (λ q. accepts_sets b n u (sym e ∙ q), λ x. e ∙ sets_accepted b n x); one_list = one_set b }
