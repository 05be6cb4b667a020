-- The number of a block at an entry. Assumes nothing.
use Rattle.std.specs.Prelude.{Some, None}
use Rattle.format.specs.Kit.{◌≡◌, refl, true, false, ◌&&◌, ◌||◌, and-false, or-true, List, ℕ, ◌+◌, ◌≤◌, ◌<◌, arith, leb, eqb, eq-eqb, ne_eqb, le-leb, lt-leb}
use Rattle.format.specs.Bytes.{low_at}
use Rattle.pair_at.specs.Held.{NumberAt}

module _ (s : List ℕ) (a j b t : ℕ) where
  abbrev k : ℕ
  k = low_at 2 s t

  out : (leb (t + 4) a && (leb k 32765 && (eqb j 0 || eqb k b))) ≡ false → NumberAt s a j b t None
  out e = e

  pub too_late : a < t + 4 → NumberAt s a j b t None
  too_late h = out (rw (lt-leb (t + 4) a h) refl)

  pub no_block : 32765 < k → NumberAt s a j b t None
  no_block h = out (rw (lt-leb k 32765 h) (and-false (leb (t + 4) a)))

  pub other_block : 0 < j → (k ≡ b → ⊥) → NumberAt s a j b t None
  other_block h e = out (rw (ne_eqb j 0 (λ z. omega arith), ne_eqb k b e, and-false (leb k 32765)) (and-false (leb (t + 4) a)))

  module _ (r : ℕ) (e : r ≡ k) (h : t + 4 ≤ a) (l : r ≤ 32765) where
    right : (eqb j 0 || eqb k b) ≡ true → NumberAt s a j b t (Some r)
    right x = ((le-leb (t + 4) a h, rw (le-leb k 32765 (omega arith)) x), e, h, l)

    pub its_entry : k ≡ b → NumberAt s a j b t (Some r)
    its_entry z = right (rw (eq-eqb k b z) (or-true (eqb j 0)))

    pub no_entries : j ≤ 0 → NumberAt s a j b t (Some r)
    no_entries z = right (rw (eq-eqb j 0 (omega arith)) refl)
