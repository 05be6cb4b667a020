-- Runs that are 16384 values long but for the last are the runs of the values that they make. Assumes nothing.
use Rattle.format.specs.Kit.{◌≡◌, refl, sym, ap, ap₂, ◌∙◌, List, [], ◌∷◌, ◌++◌, append-nil, ℕ, ◌-◌, ◌≤◌, min, arith, length, take, drop, length-append, take_at}
use Rattle.format.specs.Kit.{drop_at, take_all, drop_of_length-le, ℤ}
use Rattle.format.specs.Pairs.{Each}
use Rattle.format.specs.ValueRuns.{run_length, runs_in}
use Rattle.laws.proofs.Cases.{below_or}
use Rattle.run_check.proofs.Divisor.{joined, EachRun, each_append}

-- so many values in runs
abbrev pub Shaped : ℕ → List (List ℤ) → Type 0
Shaped left [] = left ≡ 0
Shaped left (r ∷ rs) = (length r ≡ min run_length left) × Shaped (left - run_length) rs

pub joined_length : (left : ℕ) (rs : List (List ℤ)) → Shaped left rs → length (joined rs) ≡ left
unfolding joined
joined_length left [] h = sym h
joined_length left (r ∷ rs) h = omega (arith, length-append r (joined rs), h.0, joined_length (left - run_length) rs h.1)

no_values : (vs : List ℤ) → length vs ≡ 0 → vs ≡ []
no_values [] e = refl
no_values (v ∷ vs) e = absurd (omega arith)

cut : (left : ℕ) (r : List ℤ) (rs : List (List ℤ)) → Shaped left (r ∷ rs)
    → (take run_length (r ++ joined rs) ≡ r) × (drop run_length (r ++ joined rs) ≡ joined rs)
cut left r rs h =
    below_or left run_length
    (λ l.
    let none : joined rs ≡ [] = no_values (joined rs) (omega (arith, joined_length (left - run_length) rs h.1)) in
    let long : length (r ++ []) ≤ run_length = omega (arith, h.0, length-append r []) in
    rw none (take_all run_length (r ++ []) long ∙ append-nil r, drop_of_length-le (r ++ []) {i = run_length} long))
    (λ l.
    let whole : length r ≡ run_length = omega (arith, h.0) in
    (take_at r (joined rs) run_length whole, drop_at r (joined rs) run_length whole))

pub runs_joined : (left : ℕ) (rs : List (List ℤ)) → Shaped left rs → runs_in (length rs) (joined rs) ≡ rs
unfolding runs_in joined
runs_joined left [] h = refl
runs_joined left (r ∷ rs) h =
    let c = cut left r rs h in
    ap₂ {C = List (List ℤ)} (λ (x : List ℤ) (xs : List (List ℤ)). x ∷ xs) c.0 (ap (runs_in (length rs)) c.1 ∙ runs_joined (left - run_length) rs h.1)

pub joined_each : (P : ℤ → Type 0) (rs : List (List ℤ)) → EachRun (Each P) rs → Each P (joined rs)
unfolding joined
joined_each P [] t = tt
joined_each P (r ∷ rs) t = each_append P r (joined rs) t.0 (joined_each P rs t.1)
