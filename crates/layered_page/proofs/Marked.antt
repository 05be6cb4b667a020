-- The columns by the kinds of the correction's page, and whether an id is absent there. Assumes nothing.
use Rattle.format.specs.Kit.{◌≡◌, refl, sym, ap, ap₂, ◌∙◌, Bool, true, false, ◌||◌, List, [], ◌∷◌, map, ℕ, ◌+◌, ◌≤◌, ◌<◌, add-one, eqb}
use Rattle.format.specs.Kit.{length, drop, get_or, set, drop-cons, drop_of_length-le, sets, eq-eqb, ne_eqb}
use Rattle.format.specs.Stores.{Fill}
use Rattle.laws.proofs.Stores.{begun, one_more, filled}
use Rattle.layered_page.specs.Absent.{column_by, some_absent}

pub by_machine : (k : ℕ) → k ≡ 1 → 0 ≡ column_by k
unfolding column_by
by_machine k e = rw (eq-eqb k 1 e) refl

pub by_correction : (k : ℕ) → (k ≡ 1 → ⊥) → 1 ≡ column_by k
unfolding column_by
by_correction k e = rw (ne_eqb k 1 e) refl

or_right : (a b c : Bool) → ((a || b) || c) ≡ (a || (b || c))
or_right true b c = refl
or_right false b c = refl

or_none : (a : Bool) → (a || false) ≡ a
or_none true = refl
or_none false = refl

some_next : (k : ℕ) (ks : List ℕ) → some_absent (k ∷ ks) ≡ (eqb k 1 || some_absent ks)
unfolding some_absent
some_next k ks = refl

none_left : some_absent [] ≡ false
unfolding some_absent
none_left = refl

module _ (ks : List ℕ) where
  -- before place i
  pub record Marking (cs₀ cs : List ℕ) (some : Bool) (i : ℕ) : Type 0 where
    pub left : (some || some_absent (drop i ks)) ≡ some_absent ks
    pub fills : Fill cs₀ 0 (map column_by ks) cs i (map column_by (drop i ks))

  pub mark_begins : (cs : List ℕ) → Marking cs cs false 0
  mark_begins cs = record { left = refl; fills = begun cs 0 _ _ refl }

  module _ {cs₀ cs : List ℕ} {some : Bool} {i : ℕ} (g : Marking cs₀ cs some i) where
    pub marks : (k c : ℕ) (some' : Bool) → i < length ks → k ≡ get_or ks i 0 → c ≡ column_by k → some' ≡ (some || eqb k 1)
        → Marking cs₀ (set cs i c) some' (i + 1)
    marks k c some' l e ec es =
        let d : drop i ks ≡ k ∷ drop (i + 1) ks = drop-cons ks i 0 l ∙ ap₂ (λ (a j : ℕ). a ∷ drop j ks) (sym e) (sym (add-one i)) in
        record {
          left =
              ap (λ (b : Bool). b || some_absent (drop (i + 1) ks)) es
              ∙ or_right some (eqb k 1) (some_absent (drop (i + 1) ks))
              ∙ ap (λ (b : Bool). some || b) (sym (ap some_absent d ∙ some_next k (drop (i + 1) ks)))
              ∙ g.left;
          fills = one_more _ _ _ _ _ _ g.fills c _ (ap (map column_by) d ∙ ap (λ (a : ℕ). a ∷ map column_by (drop (i + 1) ks)) (sym ec));
        }

    pub marked : length ks ≤ i → (some ≡ some_absent ks) × (cs ≡ sets cs₀ 0 (map column_by ks))
    marked h =
        let d : drop i ks ≡ [] = drop_of_length-le ks {i = i} h in (
          sym (or_none some) ∙ ap (λ (b : Bool). some || b) (sym (ap some_absent d ∙ none_left)) ∙ g.left,
          filled _ _ _ _ _ _ g.fills (ap (map column_by) d),
        )
