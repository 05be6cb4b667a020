-- Marks at the places of a table: all places have one exactly if each of them is among the codes. Assumes nothing.
use Rattle.format.specs.Kit.{◌≡◌, refl, sym, ap, ◌∙◌, true, List, [], ◌∷◌, map, ℕ, zero, suc, ◌<◌, ◌≤◌, arith, ℤ, pos, length, get_or, set, length-set}
use Rattle.format.specs.Kit.{length-map, subst}
use Rattle.format.specs.Kit.{get_or-set_same, get_or-set_other, replicate, get_or-replicate, length-replicate}
use Rattle.format.specs.Table.{code_in, ascends, all_in}
use Rattle.laws.proofs.Cases.{equal_or}
use Rattle.laws.proofs.Ascending.{In, in_or, in_at, in_none, all_each, each_all, Coded, coded, code_at}
use Rattle.laws.proofs.Table.{codes_at}
use Rattle.tables.specs.Marks.{marked, AllMarked}

-- k is one of the codes
abbrev pub OneOf : List ℕ → ℕ → Type 0
OneOf cs k = (i : ℕ) × (i < length cs) × (get_or cs i 0 ≡ k)

pub length_marked : (marks cs : List ℕ) → length (marked marks cs) ≡ length marks
unfolding marked
length_marked marks [] = refl
length_marked marks (c ∷ cs) = length_marked (set marks c 1) cs ∙ length-set marks c 1

-- a mark stays
stays : (marks cs : List ℕ) (k : ℕ) → (get_or marks k 0 ≡ 0 → ⊥) → get_or (marked marks cs) k 0 ≡ 0 → ⊥
unfolding marked
stays marks [] k h e = h e
stays marks (c ∷ cs) k h e = stays (set marks c 1) cs k (set_stays marks c k h) e
  where
    set_stays : (m : List ℕ) (c k : ℕ) → (get_or m k 0 ≡ 0 → ⊥) → get_or (set m c 1) k 0 ≡ 0 → ⊥
    set_stays [] c k h e = h e
    set_stays (x ∷ m) zero zero h e = omega arith
    set_stays (x ∷ m) zero (suc k) h e = h e
    set_stays (x ∷ m) (suc c) zero h e = h e
    set_stays (x ∷ m) (suc c) (suc k) h e = set_stays m c k h e

-- each code's place has one,
pub marked_has : (marks cs : List ℕ) (k : ℕ) → k < length marks → OneOf cs k → get_or (marked marks cs) k 0 ≡ 0 → ⊥
unfolding marked
marked_has marks [] k h o e = omega (arith, o.1)
marked_has marks (c ∷ cs) k h (zero, l, s) e =
    stays (set marks c 1) cs k (λ z. let one : get_or (set marks c 1) k 0 ≡ 1 = rw s (get_or-set_same marks k 1 0 h) in omega arith) e
marked_has marks (c ∷ cs) k h (suc i, l, s) e = marked_has (set marks c 1) cs k (omega (arith, length-set marks c 1)) (i, omega arith, s) e

-- and no other
pub marked_only : (marks cs : List ℕ) (k : ℕ) → get_or marks k 0 ≡ 0 → (OneOf cs k → ⊥) → get_or (marked marks cs) k 0 ≡ 0
unfolding marked
marked_only marks [] k z h = z
marked_only marks (c ∷ cs) k z h =
    marked_only (set marks c 1) cs k (get_or-set_other marks c k 1 0 (λ e. h (0, omega arith, sym e)) ∙ z) (λ o. h (suc o.0, omega (arith, o.1), o.2))

-- ---- no unused entry

one_or : {X : Type 0} (cs : List ℕ) (k : ℕ) → (OneOf cs k → X) → ((OneOf cs k → ⊥) → X) → X
one_or [] k f g = g (λ o. omega (arith, o.1))
one_or (c ∷ cs) k f g =
    equal_or c k
    (λ e. f (0, omega arith, e))
    (λ e. one_or cs k (λ o. f (suc o.0, omega (arith, o.1), o.2)) (λ h. g (none_of e h)))
  where
    none_of : (c ≡ k → ⊥) → (OneOf cs k → ⊥) → OneOf (c ∷ cs) k → ⊥
    none_of e h (zero, l, s) = e s
    none_of e h (suc i, l, s) = h (i, omega arith, s)

-- from no marks: all places have one exactly if each of them is a code
module _ (room t : ℕ) (fits : t ≤ room) (cs : List ℕ) where
  pub marks_one : AllMarked (marked (replicate room 0) cs) t → (k : ℕ) → k < t → OneOf cs k
  marks_one all k h =
      one_or cs k (λ o. o) (λ n. absurd (all k h (marked_only (replicate room 0) cs k (get_or-replicate room k 0 0 (omega arith)) n)))

  pub one_marks : ((k : ℕ) → k < t → OneOf cs k) → AllMarked (marked (replicate room 0) cs) t
  one_marks each k h = marked_has (replicate room 0) cs k (omega (arith, length-replicate {A = ℕ} room 0)) (each k h)

in_place : (vs : List ℤ) (x : ℤ) → In vs x → (i : ℕ) × (i < length vs) × (get_or vs i (pos 0) ≡ x)
in_place [] x e = in_none x e
in_place (v ∷ vs) x e =
    in_or v vs x e (λ s. (0, omega arith, s)) (λ s. let p = in_place vs x s in (suc p.0, omega (arith, p.1), p.2))

-- each place is some value's code exactly if each entry is some value
module _ (us vs : List ℤ) (up : ascends us ≡ true) (holds : all_in us vs ≡ true) where
  pub codes_used : ((k : ℕ) → k < length us → OneOf (map (code_in us) vs) k) → all_in vs us ≡ true
  codes_used each =
      each_all vs us
      (λ x e.
      let c : Coded us x = coded us x up e in
      let o = each (code_in us x) c.within in
      let l : o.0 < length vs = omega (arith, o.1, length-map vs (code_in us)) in
      let v : ℤ = get_or vs o.0 (pos 0) in
      let d : Coded us v = coded us v up (all_each us vs holds v (in_at vs o.0 (pos 0) l)) in
      let same : v ≡ x =
      sym d.there ∙ ap (λ (k : ℕ). get_or us k (pos 0)) (sym (codes_at us vs o.0 l) ∙ o.2) ∙ c.there in
      subst (In vs) same (in_at vs o.0 (pos 0) l))

  pub used_codes : all_in vs us ≡ true → (k : ℕ) → k < length us → OneOf (map (code_in us) vs) k
  used_codes all k h =
      let p = in_place vs (get_or us k (pos 0)) (all_each vs us all (get_or us k (pos 0)) (in_at us k (pos 0) h)) in
      (p.0, omega (arith, p.1, length-map vs (code_in us)), codes_at us vs p.0 p.1 ∙ ap (code_in us) p.2 ∙ code_at us k up h)
