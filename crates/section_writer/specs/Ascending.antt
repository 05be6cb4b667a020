-- That ids ascend is a fact, as a field of a struct has to be. Assumes nothing.
use Rattle.std.specs.Prelude.{◌∷◌}
use Rattle.format.specs.Kit.{List, [], ℕ, suc}
use Rattle.format.specs.Pairs.{Asc}
use Rattle.std.proofs.Props.{props}

pub asc_prop : (a : ℕ) (l : List ℕ) → IsProp (Asc a l)
asc_prop a [] = Prim.hlevel props
asc_prop a (x ∷ xs) = let later : IsProp (Asc (suc x) xs) = asc_prop (suc x) xs in Prim.hlevel (props, later)
