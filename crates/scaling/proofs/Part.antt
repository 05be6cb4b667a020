-- A value read from a part of the values, biased. Assumes nothing.
use Rattle.format.specs.Kit.{◌≡◌, subst, ap, ◌∙◌, List, ℕ, ◌+◌, ◌^◌, ◌<◌, arith, ℤ, pos, length, get_or, take, drop, length-take, length-drop, mag}
use Rattle.std.proofs.Common.{to_z, of_z, w64}
use Rattle.std.proofs.lemmas.List.{get_or-take, get_or-drop}
use Rattle.signed.specs.Sign.{biased}
use Rattle.signed.proofs.Signs.{read_back}

-- b is value i, biased
pub record ValueAt (vs : List ℤ) (i b : ℕ) : Type 0 where
  pub inside : i < length vs
  pub size : mag (get_or vs i (pos 0)) < 2 ^ 63
  pub is : b ≡ biased (get_or vs i (pos 0))

pub value_at : (vs : List ℤ) (from m k b : ℕ) → k < length (take m (drop from vs))
    → mag (get_or (take m (drop from vs)) k (pos 0)) < 2 ^ 63
    → b ≡ biased (to_z w64 (of_z w64 (get_or (take m (drop from vs)) k (pos 0))))
    → ValueAt vs (from + k) b
value_at vs from m k b h f e =
    let l : k < m = omega (arith, length-take m (drop from vs)) in
    let v : get_or (take m (drop from vs)) k (pos 0) ≡ get_or vs (from + k) (pos 0) =
    get_or-take m (drop from vs) k (pos 0) l ∙ get_or-drop from vs k (pos 0) in
    record {
      inside = omega (arith, length-take m (drop from vs), length-drop from vs);
      size = subst (λ (z : ℤ). mag z < 2 ^ 63) v f;
      is = e ∙ ap biased (read_back _ f ∙ v);
    }
