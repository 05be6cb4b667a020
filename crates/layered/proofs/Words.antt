-- What a layered answer tells of each column's words: those of that column's own look-up, so no more than its rank power allows, on any bytes. Assumes nothing.
use Rattle.format.specs.Kit.{◌≡◌, sym, subst, cond, eqb, Bool, true, false, List, ℕ, zero-le, ◌≤◌, ◌-◌, ◌^◌, arith, pow_pos}
use Rattle.format.specs.Refusals.{Outcome, done}
use Rattle.format.specs.Editions.{editions}
use Rattle.format.specs.Opening.{Opened, open_column}
use Rattle.format.specs.LookUp.{Look, look_up, look_up_in}
use Rattle.format.specs.Walk.{stride_words, FewWords}
use Rattle.format.specs.Layered.{Layer, machine, correction, of_layer, look_up_layered, look_up_layered_in}
use Rattle.laws.proofs.Words.{look_up_few, look_up_in_few}
use Rattle.laws.proofs.Layered.{Says, layered_says, layered_in_says}
use Rattle.layered.specs.Answers.{layered_of, words_in}
use Rattle.layered.specs.declared.Layer as La
use Rattle.std.specs.Prelude.{Ok, Err}
use Rattle.std.specs.declared.result.Result.{Result}
use Rattle.layered.specs.declared.LayeredLook as Ly
use Rattle.layered.specs.declared.LayerRefusal as Rf

-- a stride has a word
one_word : (p w : ℕ) → w ≤ 1 → w ≤ stride_words p
unfolding stride_words
one_word p w h = go (eqb p 0)
  where
    go : (t : Bool) → w ≤ cond t 1024 (2 ^ (p - 6))
    go true = omega arith
    go false = omega (arith, pow_pos (p - 6))

-- b is the machine column's look-up and a the correction's
few_in : (a b : Outcome Look) (r : Result Ly.LayeredLook Rf.LayerRefusal) → Says a b (layered_of r) → (layer : Layer) (p : ℕ) → FewWords p (of_layer b a layer)
    → words_in layer r ≤ stride_words p
few_in a b (Ok (Ly.LayeredLook.Found La.Layer.Machine o v w k)) s machine p f = subst (FewWords p) s.1 f
few_in a b (Ok (Ly.LayeredLook.Found La.Layer.Machine o v w k)) s correction p f = one_word p k (subst (FewWords p) s.0 f)
few_in a b (Ok (Ly.LayeredLook.Found La.Layer.Correction o v w k)) s machine p f = one_word p w (omega (arith, s.1))
few_in a b (Ok (Ly.LayeredLook.Found La.Layer.Correction o v w k)) s correction p f = subst (FewWords p) s.0 f
few_in a b (Ok (Ly.LayeredLook.Absent w k)) s machine p f = one_word p w (subst (FewWords p) s.1 f)
few_in a b (Ok (Ly.LayeredLook.Absent w k)) s correction p f = one_word p k (subst (FewWords p) s.0 f)
few_in a b (Err r) s l p f = zero-le

-- from bytes
module _ (m c : List ℕ) (id : ℕ) (r : Result Ly.LayeredLook Rf.LayerRefusal) (kept : layered_of r ≡ look_up_layered editions m c id) where
  says : Says (look_up editions c id) (look_up editions m id) (layered_of r)
  says = layered_says editions m c id (layered_of r) (sym kept)

  pub layered_few : (layer : Layer) (x : Opened) → open_column editions (of_layer m c layer) ≡ done x → words_in layer r ≤ stride_words x.head.power
  layered_few machine x o = few_in _ _ r says machine x.head.power (look_up_few editions m x id o)
  layered_few correction x o = few_in _ _ r says correction x.head.power (look_up_few editions c x id o)

-- from two columns that were opened before
module _ (m : List ℕ) (x : Opened) (c : List ℕ) (y : Opened) (id : ℕ) (r : Result Ly.LayeredLook Rf.LayerRefusal) (kept : layered_of r ≡ look_up_layered_in m x c y id) where
  says_in : Says (look_up_in c y id) (look_up_in m x id) (layered_of r)
  says_in = layered_in_says m x c y id (layered_of r) (sym kept)

  pub layered_in_few : (layer : Layer) → words_in layer r ≤ stride_words (of_layer x y layer).head.power
  layered_in_few machine = few_in _ _ r says_in machine x.head.power (look_up_in_few m x id)
  layered_in_few correction = few_in _ _ r says_in correction y.head.power (look_up_in_few c y id)
