-- What is left of a search, in a run and among runs. Assumes nothing.
use Rattle.format.specs.Kit.{◌≡◌, refl, ◌∙◌, true, false, Option, none, some, ℕ, suc, ◌+◌, ◌-◌, ◌*◌, ◌<◌, ◌≤◌, min}
use Rattle.format.specs.Kit.{add-one, add-zero, sub-zero, cond, arith, ℤ}
use Rattle.format.specs.Refusals.{Outcome, done, refused, and_then, given, BROKEN}
use Rattle.format.specs.ValueRuns.{run_length, run_count, Summary}
use Rattle.format.specs.FirstBetween.{between, skipped, scan_from, runs_from}
use Rattle.format.specs.BetweenFrom.{from_value}
use Rattle.run_search.specs.Sought.{found_or}
use Rattle.std.specs.declared.option.Option as Op
use Rattle.std.specs.declared.result.Result.{Result}
use Rattle.answers.specs.declared.Refusal as Re

-- ---- values in turn

module _ (f : ℕ → Option ℤ) (a b : ℤ) (c i k : ℕ) (more : Outcome (Option ℕ)) (h : k < c) where
  one_less : c - k ≡ suc (c - (k + 1))
  one_less = omega arith

  pub scan_broken : f (i + k) ≡ none → refused BROKEN 0 ≡ scan_from f a b (c - k) (i + k) more
  unfolding scan_from and_then given
  scan_broken e = rw (one_less, e)

  module _ (v : ℤ) (e : f (i + k) ≡ some v) where
    pub scan_here : between a b v ≡ true → done (some (i + k)) ≡ scan_from f a b (c - k) (i + k) more
    unfolding scan_from and_then given
    scan_here t = rw (one_less, e, t)

    pub scan_on : between a b v ≡ false → scan_from f a b (c - k) (i + k) more ≡ scan_from f a b (c - (k + 1)) (i + (k + 1)) more
    unfolding scan_from and_then given
    scan_on t = let next : i + (k + 1) ≡ suc (i + k) = omega arith in rw (one_less, e, t, next)

pub scan_end : (f : ℕ → Option ℤ) (a b : ℤ) (c i k : ℕ) (more : Outcome (Option ℕ)) → c ≤ k → more ≡ scan_from f a b (c - k) (i + k) more
unfolding scan_from
scan_end f a b c i k more h = let z : c - k ≡ 0 = omega arith in rw z

-- ---- runs in turn

-- what one run says, for any later ones
abbrev RunSays : (ℕ → Option ℤ) → (ℕ → Summary) → ℤ → ℤ → ℕ → ℕ → ℕ → Result (Op.Option ℕ) Re.Refusal → Type 0
RunSays f x a b n r k q = (more : Outcome (Option ℕ)) → found_or q more
    ≡ cond (skipped a b (x r)) more (scan_from f a b (min run_length (n - run_length * r) - k) (run_length * r + k) more)

module _ (f : ℕ → Option ℤ) (x : ℕ → Summary) (a b : ℤ) (n r : ℕ) where
  -- the runs from r on, of c in all: what run r says, and then what those after it give
  pub run_left : (c : ℕ) → r < c → (q : Result (Op.Option ℕ) Re.Refusal) → RunSays f x a b n r 0 q
      → found_or q (runs_from f x a b n (c - (r + 1)) (r + 1)) ≡ runs_from f x a b n (c - r) r
  unfolding runs_from
  run_left c h q says =
      let less : c - r ≡ suc (c - (r + 1)) = omega arith in
      rw (less, ← add-one r) (says _ ∙ rw (sub-zero (min run_length (n - run_length * r)), add-zero (run_length * r)) refl)

  -- the same where run r is asked from value k on
  pub part_left : (k : ℕ) (q : Result (Op.Option ℕ) Re.Refusal) → RunSays f x a b n r k q
      → found_or q (runs_from f x a b n (run_count n - (r + 1)) (r + 1)) ≡ from_value f x a b n r k
  unfolding from_value
  part_left k q says = rw (add-one r) (says _)

pub runs_end : (f : ℕ → Option ℤ) (x : ℕ → Summary) (a b : ℤ) (n c r : ℕ) → c ≤ r → done none ≡ runs_from f x a b n (c - r) r
unfolding runs_from
runs_end f x a b n c r h = let z : c - r ≡ 0 = omega arith in rw z
