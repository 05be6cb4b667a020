-- The values of ordinals that follow each other: one more, none, and how many at most. Assumes nothing.
use Rattle.format.specs.Kit.{◌≡◌, refl, List, [], ◌∷◌, Option, none, some, ℕ, zero, suc, ◌≤◌, arith, ℤ, length}
use Rattle.format.specs.Drawn.{drawn_by, drawn}

module _ (f : ℕ → Option ℤ) where
  pub drawn_some : (k x : ℕ) (v : ℤ) → f x ≡ some v → drawn f (suc k) x ≡ v ∷ drawn f k (suc x)
  unfolding drawn drawn_by
  drawn_some k x v e = rw e refl

  pub drawn_none : (k x : ℕ) → f x ≡ none → drawn f k x ≡ []
  unfolding drawn drawn_by
  drawn_none zero x e = refl
  drawn_none (suc k) x e = rw e refl

  pub drawn_zero : (k x : ℕ) → k ≡ 0 → drawn f k x ≡ []
  unfolding drawn
  drawn_zero k x e = rw e refl

  most_by : (k x : ℕ) (o : Option ℤ) → f x ≡ o → length (drawn f k (suc x)) ≤ k → length (drawn f (suc k) x) ≤ suc k
  most_by k x (some v) e h = rw (drawn_some k x v e) (omega (arith, h))
  most_by k x none e h = rw (drawn_none (suc k) x e) (omega arith)

  pub drawn_most : (k x : ℕ) → length (drawn f k x) ≤ k
  unfolding drawn
  drawn_most zero x = omega arith
  drawn_most (suc k) x = most_by k x (f x) refl (drawn_most k (suc x))
