-- `demands::opened::open` meets its contract. Assumes nothing.
use Rattle.format.specs.Kit.{sym, subst, refl}
use Rattle.format.specs.Pairs.{Below}
use Rattle.format.specs.Editions.{editions}
use Rattle.laws.proofs.Digits.{below_all}
use Rattle.format.specs.Opening.{open_column}
use Rattle.format.specs.Says.{OpenSays}
use Rattle.laws.proofs.OpeningSays.{open_exactly}
use Rattle.demands.proofs.opened.open.Goals as goal

pub returns : goal.returns
returns c =
    let a = c.args in
    let b = a.bytes.now in
    let u : Below 256 b = below_all 256 b (λ i. (c.type_inv.bytes i).fits) in
    record { says = subst (OpenSays editions b) (sym c.open.ensures) ((open_exactly editions b (open_column editions b) u).0 refl) }
