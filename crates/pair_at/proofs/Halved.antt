-- What is left of halving. Assumes nothing.
use Rattle.format.specs.Kit.{◌≡◌, refl, sym, ap, ◌∙◌, ℕ, zero, suc, ◌+◌, ◌-◌, ◌/◌, ◌≤◌, ◌<◌, arith}
use Rattle.format.specs.PairAt.{last_in, last_up_to}
use Rattle.laws.proofs.LastUpTo.{one_left, probe_above, probe_below}

pub record Left (f : ℕ → ℕ) (x n lo hi : ℕ) : Type 0 where
  pub probes : ℕ
  pub enough : hi ≤ lo + suc probes
  pub ordered : lo ≤ hi
  pub most : hi ≤ n
  pub some : 0 < n → lo < hi
  pub same : last_up_to f x n ≡ last_in probes f x lo hi

module _ (f : ℕ → ℕ) (x n : ℕ) where
  pub begin : Left f x n 0 n
  unfolding last_up_to
  begin = record { probes = n; enough = omega arith; ordered = omega arith; most = omega arith; some = λ h. h; same = refl }

  module _ (lo hi : ℕ) (l : Left f x n lo hi) where
    pub ends : hi - lo ≤ 1 → (lo ≡ last_up_to f x n) × (0 < n → lo < n)
    ends h =
        (sym (l.same ∙ one_left f x l.probes lo hi (omega (arith, l.ordered))), λ g. omega (arith, l.some g, l.most))

    module _ (h : 1 < hi - lo) where
      fewer : (k : ℕ) → l.probes ≡ k → (j : ℕ) × (l.probes ≡ suc j)
      fewer zero e = absurd (omega (arith, l.enough))
      fewer (suc j) e = (j, e)

      pub above : f ((lo + hi) / 2) ≤ x → Left f x n ((lo + hi) / 2) hi
      above g =
          let k = fewer l.probes refl in
          record {
            probes = k.0;
            enough = omega (arith, l.enough, k.1);
            ordered = omega arith;
            most = l.most;
            some = λ z. omega arith;
            same = l.same ∙ ap (λ (i : ℕ). last_in i f x lo hi) k.1 ∙ probe_above f x k.0 lo hi (omega arith) g;
          }

      pub below : x < f ((lo + hi) / 2) → Left f x n lo ((lo + hi) / 2)
      below g =
          let k = fewer l.probes refl in
          record {
            probes = k.0;
            enough = omega (arith, l.enough, k.1);
            ordered = omega arith;
            most = omega (arith, l.most);
            some = λ z. omega arith;
            same = l.same ∙ ap (λ (i : ℕ). last_in i f x lo hi) k.1 ∙ probe_below f x k.0 lo hi (omega arith) g;
          }
