-- Halving for the last number at or below x: one probe, and that it finds the last where numbers up to it are, and those above it are not.
-- Assumes nothing.
use Rattle.format.specs.Kit.{◌≡◌, refl, ◌∙◌, ℕ, zero, suc, ◌+◌, ◌/◌, ◌≤◌, ◌<◌, arith, lt-ltb, le-ltb, le-leb, lt-leb}
use Rattle.format.specs.PairAt.{last_in, last_up_to}
use Rattle.laws.proofs.Cases.{below_or}

module _ (f : ℕ → ℕ) (x : ℕ) where
  pub one_left : (k lo hi : ℕ) → hi ≤ lo + 1 → last_in k f x lo hi ≡ lo
  unfolding last_in
  one_left zero lo hi h = refl
  one_left (suc k) lo hi h = rw (le-ltb (suc lo) hi (omega arith))

  -- a probe: the half that is left, with the probes that are left
  pub probe_above : (k lo hi : ℕ) → lo + 1 < hi → f ((lo + hi) / 2) ≤ x → last_in (suc k) f x lo hi ≡ last_in k f x ((lo + hi) / 2) hi
  unfolding last_in
  probe_above k lo hi h l = rw (lt-ltb (suc lo) hi (omega arith), le-leb (f ((lo + hi) / 2)) x l)

  pub probe_below : (k lo hi : ℕ) → lo + 1 < hi → x < f ((lo + hi) / 2) → last_in (suc k) f x lo hi ≡ last_in k f x lo ((lo + hi) / 2)
  unfolding last_in
  probe_below k lo hi h l = rw (lt-ltb (suc lo) hi (omega arith), lt-leb (f ((lo + hi) / 2)) x l)

  module _ (b n : ℕ) (under : (j : ℕ) → j ≤ b → f j ≤ x) (over : (j : ℕ) → b < j → j < n → x < f j) where
    last_in_lem : (k lo hi : ℕ) → lo ≤ b → b < hi → hi ≤ n → hi ≤ lo + suc k → last_in k f x lo hi ≡ b
    last_in_lem zero lo hi l m h e = let z : lo ≡ b = omega arith in one_left 0 lo hi (omega arith) ∙ z
    last_in_lem (suc k) lo hi l m h e =
        below_or (lo + 1) hi
        (λ g.
        let mid : ℕ = (lo + hi) / 2 in
        below_or b mid
        (λ u. probe_below k lo hi g (over mid u (omega arith)) ∙ last_in_lem k lo mid l u (omega arith) (omega arith))
        (λ u. probe_above k lo hi g (under mid u) ∙ last_in_lem k mid hi u m h (omega arith)))
        (λ g. let z : lo ≡ b = omega arith in one_left (suc k) lo hi (omega arith) ∙ z)

    pub last_is : b < n → last_up_to f x n ≡ b
    unfolding last_up_to
    last_is h = last_in_lem n 0 n (omega arith) h (omega arith) (omega arith)
