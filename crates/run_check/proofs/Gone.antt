-- The loop over the runs: one that fails, one more, and none left. Assumes nothing.
use Rattle.format.specs.Kit.{◌≡◌, true, false, ◌&&◌, List, ℕ, suc, ◌+◌, ◌-◌, ◌*◌, ◌≤◌, ◌<◌, min, add-one, arith, eqb, length}
use Rattle.format.specs.Bits.{packed_bytes}
use Rattle.format.specs.Values.{over, gcd, gcd_from}
use Rattle.format.specs.ValueRuns.{run_length, Summary, summary_at}
use Rattle.run_check.specs.RunsOk.{numbers_at, run_ok, divisor_ok, runs_ok}

module _ (g : ℕ) (s rest : List ℕ) (n c r at a d : ℕ) where
  abbrev x : Summary
  x = summary_at s r

  abbrev m : ℕ
  m = min run_length (n - run_length * r)

  module _ (h : r < c) where
    less : c - r ≡ suc (c - (r + 1))
    less = omega arith

    pub run_bad : run_ok g rest at m x ≡ false → false ≡ runs_ok g s rest n (c - r) r at a d
    unfolding runs_ok
    run_bad t = rw (less, t)

    pub run_good : run_ok g rest at m x ≡ true
        → {at2 a2 d2 : ℕ} → at2 ≡ at + packed_bytes m x.width → a2 ≡ gcd a (over (summary_at s 0).smallest x.smallest)
        → d2 ≡ gcd_from d (numbers_at rest at m x.width) → runs_ok g s rest n (c - r) r at a d ≡ runs_ok g s rest n (c - (r + 1)) (r + 1) at2 a2 d2
    unfolding runs_ok
    run_good t e1 e2 e3 = rw (less, t, add-one r, e1, e2, e3)

  pub runs_over : c ≤ r → runs_ok g s rest n (c - r) r at a d ≡ (eqb at (length rest) && divisor_ok g a d)
  unfolding runs_ok
  runs_over h = let z : c - r ≡ 0 = omega arith in rw z
