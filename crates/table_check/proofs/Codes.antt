-- Codes: each below t, each number below t among them, and marked one after the other. Assumes nothing.
use Rattle.format.specs.Kit.{◌≡◌, refl, sym, ap, ◌∙◌, true, false, List, [], ◌∷◌, ℕ, zero, suc, ◌+◌, ◌<◌, ◌≤◌}
use Rattle.format.specs.Kit.{add-one, arith, ltb, eqb, length, get_or, drop, drop-cons, drop_of_length-le, set, length-set}
use Rattle.format.specs.Kit.{lt-ltb, le-ltb, ltb-true, eq-eqb, ne_eqb}
use Rattle.format.specs.Pairs.{Below}
use Rattle.laws.proofs.Cases.{equal_or}
use Rattle.laws.proofs.Tests.{both_true, true_both, or_left, or_right}
use Rattle.tables.specs.Marks.{marked}
use Rattle.tables.proofs.Marks.{OneOf}
use Rattle.table_check.specs.ValuesOk.{below_all, one_of, used_all}

-- ---- each below t

pub below_at : (t : ℕ) (cs : List ℕ) (i : ℕ) → below_all t cs ≡ true → i < length cs → get_or cs i 0 < t
unfolding below_all
below_at t [] i e h = absurd (omega arith)
below_at t (c ∷ cs) zero e h = ltb-true c t (both_true (ltb c t) (below_all t cs) e).0
below_at t (c ∷ cs) (suc i) e h = below_at t cs i (both_true (ltb c t) (below_all t cs) e).1 (omega arith)

pub below_each : (t : ℕ) (cs : List ℕ) → ((i : ℕ) → i < length cs → get_or cs i 0 < t) → below_all t cs ≡ true
unfolding below_all
below_each t [] f = refl
below_each t (c ∷ cs) f = rw (lt-ltb c t (f 0 (omega arith))) (below_each t cs (λ i h. f (suc i) (omega arith)))

-- ---- each number below t

one_true : (cs : List ℕ) (k : ℕ) → one_of cs k ≡ true → OneOf cs k
unfolding one_of
one_true [] k e = absurd (let z : ◌≡◌ {A = ℕ} 0 1 = cc in omega arith)
one_true (c ∷ cs) k e =
    equal_or c k
    (λ s. (0, omega arith, s))
    (λ s. let o = one_true cs k (rw (ne_eqb c k s) at e) in (suc o.0, omega (arith, o.1), o.2))

true_one : (cs : List ℕ) (k : ℕ) → OneOf cs k → one_of cs k ≡ true
unfolding one_of
true_one [] k o = absurd (omega (arith, o.1))
true_one (c ∷ cs) k (zero, l, s) = or_left _ _ (eq-eqb c k s)
true_one (c ∷ cs) k (suc i, l, s) = or_right (eqb c k) (one_of cs k) (true_one cs k (i, omega arith, s))

pub used_each : (t : ℕ) (cs : List ℕ) → used_all t cs ≡ true → (k : ℕ) → k < t → OneOf cs k
unfolding used_all
used_each zero cs e k h = absurd (omega arith)
used_each (suc t) cs e k h =
    let b = both_true (one_of cs t) (used_all t cs) e in
    equal_or k t (λ s. rw s (one_true cs t b.0)) (λ s. used_each t cs b.1 k (omega arith))

pub each_used : (t : ℕ) (cs : List ℕ) → ((k : ℕ) → k < t → OneOf cs k) → used_all t cs ≡ true
unfolding used_all
each_used zero cs f = refl
each_used (suc t) cs f = true_both _ _ (true_one cs t (f t (omega arith))) (each_used t cs (λ k h. f k (omega arith)))

-- ---- numbers below b, as a list of them is told to be

pub each_below : (b : ℕ) (xs : List ℕ) → ((i : ℕ) → i < length xs → get_or xs i 0 < b) → Below b xs
each_below b [] f = tt
each_below b (x ∷ xs) f = (f 0 (omega arith), each_below b xs (λ i h. f (suc i) (omega arith)))

-- ---- marked one after the other

-- of the codes from i on it is still to be asked whether each is below t, and their marks are still to be set
pub record Counting (t : ℕ) (cs m₀ m : List ℕ) (i : ℕ) : Type 0 where
  pub size : length m ≡ length m₀
  pub inside : i ≤ length cs
  pub asked : below_all t cs ≡ below_all t (drop i cs)
  pub marks : marked m (drop i cs) ≡ marked m₀ cs

module _ {t : ℕ} {cs m₀ m : List ℕ} {i : ℕ} (g : Counting t cs m₀ m i) (c : ℕ) (more : i < length cs) (is : get_or cs i 0 ≡ c) where
  next : drop i cs ≡ c ∷ drop (i + 1) cs
  next = rw add-one (drop-cons cs i 0 more ∙ ap {B = List ℕ} (λ (x : ℕ). x ∷ drop (suc i) cs) is)

  pub counting_stop : t ≤ c → false ≡ below_all t cs
  unfolding below_all
  counting_stop h = sym (g.asked ∙ ap (below_all t) next ∙ rw (le-ltb c t h))

  pub counting_more : c < t → Counting t cs m₀ (set m c 1) (i + 1)
  unfolding below_all marked
  counting_more h =
      record {
        size = length-set m c 1 ∙ g.size;
        inside = omega arith;
        asked = g.asked ∙ ap (below_all t) next ∙ rw (lt-ltb c t h);
        marks = sym (ap (marked m) next) ∙ g.marks;
      }

pub counting_end : {t : ℕ} {cs m₀ m : List ℕ} {i : ℕ} → Counting t cs m₀ m i → length cs ≤ i → (true ≡ below_all t cs) × (m ≡ marked m₀ cs)
unfolding below_all marked
counting_end {t} {cs} {m₀} {m} {i} g h =
    let none_left : drop i cs ≡ [] = drop_of_length-le cs h in
    (sym (g.asked ∙ ap (below_all t) none_left), sym (ap (marked m) none_left) ∙ g.marks)
