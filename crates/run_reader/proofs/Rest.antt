-- Values of ordinals that follow each other: the same by another rule, and what is left after some of them. Assumes nothing.
use Rattle.format.specs.Kit.{◌≡◌, refl, sym, ap, ap₂, ◌∙◌, List, ◌∷◌, ◌++◌, Option, none, some, ℕ, zero, suc, ◌+◌, ◌-◌, ◌≤◌, ◌<◌, arith, ℤ, length}
use Rattle.format.specs.Drawn.{drawn_by, drawn}
use Rattle.laws.proofs.Drawn.{drawn_some, drawn_none}

-- by two rules that agree on the ordinals asked for
pub drawn_same : (f g : ℕ → Option ℤ) (m k x : ℕ) → ((j : ℕ) → j < m → f (k + j) ≡ g (x + j)) → drawn f m k ≡ drawn g m x
unfolding drawn
drawn_same f g zero k x h = refl
drawn_same f g (suc m) k x h =
    let a : k + 0 ≡ k = omega arith in
    let b : x + 0 ≡ x = omega arith in
    let first = h 0 (omega arith) in
    ap₂ drawn_by (rw (a, b) at first) (drawn_same f g m (suc k) (suc x) (λ j l.
    let c : suc k + j ≡ k + suc j = omega arith in
    let d : suc x + j ≡ x + suc j = omega arith in
    rw (c, d) (h (suc j) (omega (arith, l)))))

module _ (f : ℕ → Option ℤ) where
  -- what is left of n ordinals after the first values of the m from x on
  abbrev rest : ℕ → ℕ → List ℤ → List ℤ
  rest n x ds = ds ++ drawn f (n - length ds) (x + length ds)

  rest_by : (m n x : ℕ) (o : Option ℤ) → f x ≡ o → drawn f n (suc x) ≡ rest n (suc x) (drawn f m (suc x))
      → drawn f (suc n) x ≡ rest (suc n) x (drawn f (suc m) x)
  rest_by m n x (some v) e more =
      let l : ℕ = length (drawn f m (suc x)) in
      let a : suc n - suc l ≡ n - l = omega arith in
      let b : x + suc l ≡ suc x + l = omega arith in
      rw (drawn_some f m x v e, drawn_some f n x v e, a, b) (ap (λ (vs : List ℤ). v ∷ vs) more)
  rest_by m n x none e more =
      let b : x + 0 ≡ x = omega arith in
      rw (drawn_none f (suc m) x e, b) (drawn_none f (suc n) x e ∙ sym (drawn_none f (suc n - 0) x e))

  pub drawn_rest : (m n x : ℕ) → m ≤ n → drawn f n x ≡ rest n x (drawn f m x)
  unfolding drawn
  drawn_rest zero n x h =
      let a : n - 0 ≡ n = omega arith in
      let b : x + 0 ≡ x = omega arith in
      rw (a, b) refl
  drawn_rest (suc m) zero x h = absurd (omega (arith, h))
  drawn_rest (suc m) (suc n) x h = rest_by m n x (f x) refl (drawn_rest m n (suc x) (omega (arith, h)))
