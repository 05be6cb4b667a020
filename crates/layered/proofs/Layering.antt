-- The layered answer by the correction's, and the part by that answer. Assumes nothing.
use Rattle.format.specs.Kit.{◌≡◌, refl, sym, ap, ◌∙◌, subst, List, ℕ, ◌+◌, ◌≤◌, max, arith, length, ℤ}
use Rattle.format.specs.Editions.{editions}
use Rattle.format.specs.Opening.{open_column}
use Rattle.format.specs.Refusals.{Outcome}
use Rattle.format.specs.LookUp.{Look}
use Rattle.format.specs.Layered.{LayeredLook, Layer, machine, correction, of_layer, look_up_layered, no_part, section_in, part_by, layered_part}
use Rattle.laws.proofs.Layered.{Within, part_within}
use Rattle.layered.specs.Answers.{layer_of, layered_of, part_of, Topped}
use Rattle.layered.specs.declared.Layer as La
use Rattle.layered.specs.declared.Part.{Part}
use Rattle.std.specs.Prelude.{Ok, Err}
use Rattle.std.specs.declared.result.Result.{Result}
use Rattle.layered.specs.declared.LayeredLook as Ly
use Rattle.layered.specs.declared.LayerRefusal as Rf

-- ---- the correction's answer

pub found_there : (x : Ly.LayeredLook) (below : Outcome Look) (t : LayeredLook) → ((w k : ℕ) → x ≡ Ly.LayeredLook.Absent w k → ⊥)
    → Topped (Ok x) below t → layered_of (Ok x) ≡ t
found_there (Ly.LayeredLook.Found layer o v w k) below t h e = e
found_there (Ly.LayeredLook.Absent w k) below t z e = absurd (z _ _ refl)

-- ---- the part

neither : (m c : List ℕ) (x : Ly.LayeredLook) → ((layer : La.Layer) (o : ℕ) (v : ℤ) (w k : ℕ) → x ≡ Ly.LayeredLook.Found layer o v w k → ⊥)
    → part_by editions m c (layered_of (Ok x)) ≡ no_part
unfolding part_by
neither m c (Ly.LayeredLook.Found layer o v w k) z = absurd (z _ _ _ _ _ refl)
neither m c (Ly.LayeredLook.Absent w k) t = refl

module _ (m c : List ℕ) (id : ℕ) (r : Result Ly.LayeredLook Rf.LayerRefusal) (e : layered_of r ≡ look_up_layered editions m c id) where
  by_answer : part_by editions m c (layered_of r) ≡ layered_part editions m c id
  unfolding layered_part
  by_answer = ap (part_by editions m c) e

  pub from_refused : (x : Rf.LayerRefusal) → r ≡ Err x → no_part ≡ layered_part editions m c id
  unfolding part_by
  from_refused x f = sym (ap (λ (q : Result Ly.LayeredLook Rf.LayerRefusal). part_by editions m c (layered_of q)) f) ∙ by_answer

  pub from_absent : (x : Ly.LayeredLook) → r ≡ Ok x → ((layer : La.Layer) (o : ℕ) (v : ℤ) (w k : ℕ) → x ≡ Ly.LayeredLook.Found layer o v w k → ⊥)
      → no_part ≡ layered_part editions m c id
  from_absent x f t =
      sym (neither m c x t) ∙ sym (ap (λ (q : Result Ly.LayeredLook Rf.LayerRefusal). part_by editions m c (layered_of q)) f) ∙ by_answer

  -- found, in the column that is named
  pub from_found : (layer : La.Layer) (o : ℕ) (v : ℤ) (w k : ℕ) → r ≡ Ok (Ly.LayeredLook.Found layer o v w k) → (named : La.Layer) → layer ≡ named
      → section_in (layer_of named) (open_column editions (of_layer m c (layer_of named))) ≡ layered_part editions m c id
  unfolding part_by
  from_found layer o v w k f named g =
      sym (ap (λ (x : La.Layer). part_by editions m c (layered_of (Ok (Ly.LayeredLook.Found x o v w k)))) g)
      ∙ sym (ap (λ (x : Result Ly.LayeredLook Rf.LayerRefusal). part_by editions m c (layered_of x)) f)
      ∙ by_answer

-- it lies within its column
pub fits : (m c : List ℕ) (id : ℕ) (p : Part) → part_of p ≡ layered_part editions m c id → (named : La.Layer) → p.layer ≡ named
    → p.start + p.len ≤ length (of_layer m c (layer_of named))
fits m c id p e named g =
    subst (λ (x : La.Layer). p.start + p.len ≤ length (of_layer m c (layer_of x))) g
    (subst (Within m c) (sym e) (part_within editions m c id))

pub length_most : (m c : List ℕ) (layer : Layer) → length (of_layer m c layer) ≤ max (length m) (length c)
length_most m c machine = omega arith
length_most m c correction = omega arith
