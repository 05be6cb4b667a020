-- The words of two look-ups as those of the layered one (document 02, [10]). Assumes nothing.
use Rattle.format.specs.Kit.{◌≡◌, refl, sym, ap, subst, ◌∙◌, false, List, [], ◌∷◌, get_or, ℕ, ◌<◌, ◌≤◌, arith}
use Rattle.format.specs.Refusals.{Outcome, done, refused, look_up_numbers, look_up_in_numbers}
use Rattle.format.specs.Editions.{editions, among}
use Rattle.format.specs.Opening.{Opened}
use Rattle.format.specs.LookUp.{Look, found, absent, look_up, look_up_in}
use Rattle.format.specs.Layered.{underneath, on_top}
use Rattle.laws.proofs.Cases.{false_true}
use Rattle.laws.proofs.RefusalNumbers.{OneOf, Refusals, look_up_refusals, look_up_in_refusals}
use Rattle.answers.specs.Words.{answer_words, layered_words}
use Rattle.boundary.specs.Kinds.{Apart}

-- ---- no look-up is refused with 0 or 1

by_numbers : (ns : List ℕ) → among ns 0 ≡ false → among ns 1 ≡ false → (o : Outcome Look) → Refusals ns o → Apart o
by_numbers ns y z (done l) r = tt
by_numbers ns y z (refused why w) r =
    let f : (why ≡ 0 → ⊥) = λ e. false_true (sym y ∙ subst (OneOf ns) e (r why w refl)) in
    let g : (why ≡ 1 → ⊥) = λ e. false_true (sym z ∙ subst (OneOf ns) e (r why w refl)) in
    omega (arith, f, g)

pub look_up_apart : (bytes : List ℕ) (id : ℕ) → Apart (look_up editions bytes id)
unfolding among
look_up_apart bytes id = by_numbers look_up_numbers refl refl _ (look_up_refusals editions bytes id)

pub look_up_in_apart : (bytes : List ℕ) (c : Opened) (id : ℕ) → Apart (look_up_in bytes c id)
unfolding among
look_up_in_apart bytes c id = by_numbers look_up_in_numbers refl refl _ (look_up_in_refusals bytes c id)

-- ---- by the correction's words, and by the machine column's

module _ (t : List ℕ) (n : ℕ) where
  pub on_top_told : (above below : Outcome Look) → t ≡ answer_words n above → (get_or t 0 0 ≡ 1 → ⊥)
      → get_or t 0 0 ∷ get_or t 1 0 ∷ 1 ∷ get_or t 2 0 ∷ get_or t 3 0 ∷ 0 ∷ get_or t 4 0 ∷ [] ≡ layered_words (on_top above below)
  unfolding on_top
  on_top_told (done (found o v w)) below e z = rw e refl
  on_top_told (done (absent w)) below e z = absurd (z (ap (λ (l : List ℕ). get_or l 0 0) e))
  on_top_told (refused why w) below e z = rw e refl

  -- absent in the correction: the machine column's answer is the call's
  pub goes_on : (above below : Outcome Look) → Apart above → t ≡ answer_words n above → get_or t 0 0 ≡ 1 → underneath (get_or t 4 0) below ≡ on_top above below
  unfolding on_top
  goes_on (done (found o v w)) below a e z = let f : ◌≡◌ {A = ℕ} 0 1 = sym (ap (λ (l : List ℕ). get_or l 0 0) e) ∙ z in absurd (omega arith)
  goes_on (done (absent w)) below a e z = rw e refl
  goes_on (refused why w) below a e z = let f : why ≡ 1 = sym (ap (λ (l : List ℕ). get_or l 0 0) e) ∙ z in absurd (omega (arith, a))

  pub refusal_told : (k : ℕ) (below : Outcome Look) → t ≡ answer_words n below → 1 < get_or t 0 0
      → get_or t 0 0 ∷ get_or t 1 0 ∷ 0 ∷ 0 ∷ 0 ∷ 0 ∷ 0 ∷ [] ≡ layered_words (underneath k below)
  unfolding underneath
  refusal_told k (done (found o v w)) e z = let f : get_or t 0 0 ≡ 0 = ap (λ (l : List ℕ). get_or l 0 0) e in absurd (omega (arith, z))
  refusal_told k (done (absent w)) e z = let f : get_or t 0 0 ≡ 1 = ap (λ (l : List ℕ). get_or l 0 0) e in absurd (omega (arith, z))
  refusal_told k (refused why w) e z = rw e refl

  pub answer_told : (k : ℕ) (below : Outcome Look) → t ≡ answer_words n below → Apart below → get_or t 0 0 ≤ 1
      → get_or t 0 0 ∷ get_or t 1 0 ∷ 0 ∷ get_or t 2 0 ∷ get_or t 3 0 ∷ get_or t 4 0 ∷ k ∷ [] ≡ layered_words (underneath k below)
  unfolding underneath
  answer_told k (done (found o v w)) e a z = rw e refl
  answer_told k (done (absent w)) e a z = rw e refl
  answer_told k (refused why w) e a z = let f : get_or t 0 0 ≡ why = ap (λ (l : List ℕ). get_or l 0 0) e in absurd (omega (arith, a, z))
