-- The question from an ordinal on: from 0 on it is document 02's; from a column opened before it answers as from the bytes; on accepted columns
-- it is the plain scan of the values from there on. Assumes nothing.
use Rattle.format.specs.Kit.{◌≡◌, refl, sym, ap, ap₂, ◌∙◌, subst, true, false, cond, ◌&&◌, and-false, List, [], ◌∷◌, ◌++◌, Option, none, some, ℕ, zero, suc}
use Rattle.format.specs.Kit.{◌+◌, ◌-◌, ◌*◌, ◌/◌, ◌%◌}
use Rattle.format.specs.Kit.{◌≤◌, ◌<◌, min, add-zero, mul-suc, sub-zero, arith, length, get_or, take, drop, length-take, length-drop, drop-drop, drop-append-le}
use Rattle.format.specs.Kit.{take-append-drop, get_or-drop, length-take-le, ◌⊎◌, inl, inr}
use Rattle.format.specs.Kit.{drop_of_length-le, eqb, eqb-true, ne_eqb, ltb, lt-ltb, le-ltb, ℤ, pos, le_z}
use Rattle.format.specs.Refusals.{Outcome, done, refused, and_then, need, EDITION}
use Rattle.format.specs.Pairs.{Pairs}
use Rattle.format.specs.Valid.{Valid}
use Rattle.format.specs.ValueRuns.{run_length, run_count, Summary, summary_at, summary_of}
use Rattle.format.specs.Editions.{Edition, runs, number_of, edition_in}
use Rattle.format.specs.Column.{column}
use Rattle.format.specs.Opening.{Opened, open_column, value_part, value_of}
use Rattle.format.specs.Check.{accepted}
use Rattle.format.specs.FirstBetween.{between, skipped, scan_from, runs_from, between_steps, first_between, first_between_in, first_in}
use Rattle.format.specs.BetweenFrom.{from_value, between_steps_from, first_between_from, first_between_from_in}
use Rattle.laws.proofs.Cases.{true_or, below_or, equal_or}
use Rattle.laws.proofs.Editions.{one_number, lawful, lawful_reader}
use Rattle.laws.proofs.RoundTrip.{the_column, opened}
use Rattle.laws.proofs.Open.{opened_ok}
use Rattle.laws.proofs.Unique.{is_read}
use Rattle.laws.proofs.FirstBetween.{or_else, scan_list, skip_none, none_at_all, in_run_lem, run_scanned, values_there, its_summary, counted, only_runs}
use Rattle.laws.proofs.FirstBetween.{opens_too, opens_not}

-- ---- from 0 on

module _ (f : ℕ → Option ℤ) (x : ℕ → Summary) (a b : ℤ) (n : ℕ) where
  from_zero : 0 < n → from_value f x a b n 0 0 ≡ runs_from f x a b n (run_count n) 0
  unfolding from_value runs_from
  from_zero h =
      let k : run_count n ≡ suc (run_count n - 1) = omega arith in
      sym (ap (λ (j : ℕ). runs_from f x a b n j 0) k ∙ rw (sub-zero (min run_length (n - run_length * 0)), add-zero (run_length * 0)) refl)

  no_runs : n ≡ 0 → runs_from f x a b n (run_count n) 0 ≡ done none
  unfolding runs_from
  no_runs e = let z : run_count n ≡ 0 = omega arith in rw z refl

module _ (bytes : List ℕ) (a b : ℤ) where
  pub steps_from_zero : (c : Opened) → between_steps_from bytes c 0 a b ≡ between_steps bytes c a b
  unfolding between_steps_from between_steps
  steps_from_zero c =
      let n : ℕ = c.head.count in
      equal_or n 0
      (λ e. rw (le-ltb 0 n (omega arith), and-false (le_z a b), no_runs (value_of bytes c) (summary_at (value_part bytes c)) a b n e)
      (true_or (le_z a b) (λ t. rw t refl) (λ t. rw t refl)))
      (λ e. rw (lt-ltb 0 n (omega arith), from_zero (value_of bytes c) (summary_at (value_part bytes c)) a b n (omega arith))
      (true_or (le_z a b) (λ t. rw t refl) (λ t. rw t refl)))

  pub between_from_zero : first_between_from bytes 0 a b ≡ first_between bytes a b
  unfolding first_between_from first_between
  between_from_zero = λ j. and_then (open_column (runs ∷ []) bytes) (λ c. steps_from_zero c j)

  pub in_from_zero : (c : Opened) → first_between_from_in bytes c 0 a b ≡ first_between_in bytes c a b
  unfolding first_between_from_in first_between_in
  in_from_zero c = rw (steps_from_zero c) refl

-- ---- the scan of a list, from a place on

module _ (a b : ℤ) where
  first_append : (i : ℕ) (xs ys : List ℤ) → first_in a b i (xs ++ ys) ≡ or_else (first_in a b i xs) (first_in a b (i + length xs) ys)
  unfolding first_in
  first_append i [] ys = rw (add-zero i)
  first_append i (v ∷ vs) ys =
      let e : suc i + length vs ≡ i + suc (length vs) = omega arith in
      let ih = rw e at (first_append (suc i) vs ys) in
      true_or (between a b v) (λ t. rw t) (λ t. rw t ih)

  -- of none in a whole, its end has none
  end_none : (p q : Option ℕ) → or_else p q ≡ none → q ≡ none
  end_none (some i) q e = absurd (let z : ◌≡◌ {A = ℕ} 0 1 = cc in omega arith)
  end_none none q e = e

  none_of_end : (i k : ℕ) (vs : List ℤ) → k ≤ length vs → first_in a b i vs ≡ none → first_in a b (i + k) (drop k vs) ≡ none
  none_of_end i k vs h e =
      let n : length (take k vs) ≡ k = length-take-le k vs h in
      let w = rw (n, take-append-drop k vs) at (first_append i (take k vs) (drop k vs)) in
      end_none (first_in a b i (take k vs)) (first_in a b (i + k) (drop k vs)) (sym w ∙ e)

  -- where nothing is left, it does not matter how it would be counted
  none_counted : (i j : ℕ) (vs : List ℤ) → (length vs ≡ 0) ⊎ (i ≡ j) → first_in a b i vs ≡ first_in a b j vs
  unfolding first_in
  none_counted i j [] h = refl
  none_counted i j (v ∷ vs) (inl e) = absurd (omega arith)
  none_counted i j (v ∷ vs) (inr e) = rw e refl

  module _ (f : ℕ → Option ℤ) (x : ℕ → Summary) (vs : List ℤ) (there : (i : ℕ) → i < length vs → f i ≡ some (get_or vs i (pos 0)))
      (its : (r : ℕ) → r < run_count (length vs) → (g : ℕ) × ((at : ℕ) × (x r ≡ summary_of g at (take run_length (drop (run_length * r) vs)))))
      (r k : ℕ) (h : run_length * r + k < length vs) (l : k < run_length) where
    abbrev n : ℕ
    n = length vs

    abbrev o : ℕ
    o = run_length * r + k

    abbrev rest : List ℤ
    rest = drop (run_length * r) vs

    abbrev run : List ℤ
    run = take run_length rest

    abbrev after : Option ℕ
    after = first_in a b (run_length * suc r) (drop (run_length * suc r) vs)

    run_length_lem : length run ≡ min run_length (n - run_length * r)
    run_length_lem = length-take run_length rest ∙ ap (min run_length) (length-drop (run_length * r) vs)

    -- the values from there on are those of the run and those after it
    parts : first_in a b o (drop o vs) ≡ or_else (first_in a b o (drop k run)) after
    parts =
        let e : drop o vs ≡ drop k run ++ drop run_length rest =
        sym (drop-drop k (run_length * r) vs) ∙ ap (drop k) (sym (take-append-drop run_length rest))
        ∙ drop-append-le k run (drop run_length rest) (omega (arith, run_length_lem)) in
        let past : run_length * r + run_length ≡ run_length * suc r = omega (arith, mul-suc run_length r) in
        let tail : drop run_length rest ≡ drop (run_length * suc r) vs = drop-drop run_length (run_length * r) vs ∙ ap (λ (i : ℕ). drop i vs) past in
        let same : first_in a b (o + length (drop k run)) (drop run_length rest) ≡ first_in a b (run_length * suc r) (drop run_length rest) =
        none_counted (o + length (drop k run)) (run_length * suc r) (drop run_length rest)
        (below_or (length rest) run_length
        (λ u. inl (omega (arith, length-drop run_length rest)))
        (λ u. inr (omega (arith, length-drop k run, run_length_lem, length-drop (run_length * r) vs, past)))) in
        ap (first_in a b o) e ∙ first_append o (drop k run) (drop run_length rest)
        ∙ ap (or_else (first_in a b o (drop k run))) (same ∙ ap (first_in a b (run_length * suc r)) tail)

    pub from_scanned : from_value f x a b n r k ≡ done (first_in a b o (drop o vs))
    unfolding from_value
    from_scanned =
        let own = its r (omega arith) in
        let later : runs_from f x a b n (run_count n - suc r) (suc r)
        ≡ done after = run_scanned a b f x vs there its (run_count n - suc r) (suc r) (omega arith) in
        let long : min run_length (n - run_length * r) - k ≡ length (drop k run) = omega (arith, length-drop k run, run_length_lem) in
        let scan : scan_from f a b (length (drop k run)) o (done after) ≡ done (first_in a b o (drop o vs)) =
        scan_list a b f (drop k run) o after
        (λ j m.
        let e : run_length * r + (k + j) ≡ o + j = omega arith in
        ap f (sym e) ∙ in_run_lem a b f x vs there its r (k + j) (omega (arith, length-drop k run)) ∙ ap (λ (v : ℤ). some v) (sym (get_or-drop k run j (pos 0))))
        ∙ ap (λ (q : Option ℕ). done q) (sym parts) in
        true_or (skipped a b (x r))
        (λ t.
        let none_here : first_in a b (run_length * r) run ≡ none = skip_none a b own.0 own.1.0 (run_length * r) run (ap (skipped a b) (sym own.1.1)
        ∙ t) in
        let none_left : first_in a b o (drop k run) ≡ none = none_of_end (run_length * r) k run (omega (arith, run_length_lem)) none_here in
        rw (t, later) (ap (λ (q : Option ℕ). done q) (sym (parts ∙ ap (λ (q : Option ℕ). or_else q after) none_left))))
        (λ t. rw (t, later, long) scan)

-- ---- the column of a list

module _ (p : ℕ) (ids : List ℕ) (vs : List ℤ) (ok : Valid runs p ids vs) (o : ℕ) (a b : ℤ) where
  abbrev bytes : List ℕ
  bytes = column runs p ids vs

  abbrev col : Opened
  col = the_column runs p ids vs

  steps_scan_from : between_steps_from bytes col o a b ≡ done (first_in a b o (drop o vs))
  unfolding between_steps_from first_in
  steps_scan_from =
      let f : ℕ → Option ℤ = value_of bytes col in
      let x : ℕ → Summary = summary_at (value_part bytes col) in
      let d : run_length * (o / run_length) + o % run_length ≡ o = omega arith in
      true_or (le_z a b)
      (λ t.
      rw t
      (ap (λ (n : ℕ). cond (ltb o n) (from_value f x a b n (o / run_length) (o % run_length)) (done none)) (counted p ids vs ok)
      ∙ below_or o (length vs)
      (λ h.
      let w : from_value f x a b (length vs) (o / run_length) (o % run_length) ≡ done (first_in a b o (drop o vs)) =
      rw d at (from_scanned a b f x vs (values_there p ids vs ok) (its_summary p ids vs ok) (o / run_length) (o % run_length) (rw d h) (omega arith)) in
      rw (lt-ltb o (length vs) h) w)
      (λ h. rw (le-ltb o (length vs) h, drop_of_length-le vs {i = o} h))))
      (λ t. rw t (ap (λ (q : Option ℕ). done q) (sym (none_at_all a b t o (drop o vs)))))

  column_between_from : first_between_from bytes o a b ≡ done (first_in a b o (drop o vs))
  unfolding first_between_from and_then
  column_between_from = rw (opened runs (lawful runs) p ids vs ok (runs ∷ []) only_runs) steps_scan_from

-- ---- any bytes, and accepted columns

module _ (known : List Edition) (bytes : List ℕ) (c : Opened) (o : ℕ) (a b : ℤ) (e : open_column known bytes ≡ done c) where
  -- a column that was opened before, by a reader of any editions: the same answer as from the bytes
  pub opened_between_from : first_between_from_in bytes c o a b ≡ first_between_from bytes o a b
  unfolding first_between_from_in first_between_from need and_then edition_in
  opened_between_from =
      let k = opened_ok known bytes c e in
      true_or (eqb (number_of c.head.edition) (number_of runs))
      (λ t. rw (opens_too known bytes c e (runs ∷ []) (rw t (ap (λ (x : Edition). some x) (sym (one_number _ _ (eqb-true _ _ t))))), t, k.rules, k.lengths))
      (λ t. rw (opens_not known bytes c e (runs ∷ []) (rw t), t))

  -- of edition 3: the plain scan, from there on, of the list that they hold
  pub accepted_between_from : (q : Pairs) → accepted bytes c ≡ done q → c.head.edition ≡ runs
      → first_between_from bytes o a b ≡ done (first_in a b o (drop o q.values))
  accepted_between_from q acc t =
      let r = is_read known (lawful_reader known) bytes c q e acc in
      let here : column runs c.head.power q.ids q.values ≡ bytes =
      ap (λ (ed : Edition). column ed c.head.power q.ids q.values) (sym t) ∙ r.bytes_are in
      ap (λ (l : List ℕ). first_between_from l o a b) (sym here)
      ∙ column_between_from c.head.power q.ids q.values
      (subst (λ (ed : Edition). Valid ed c.head.power q.ids q.values) t r.valid) o a b

  -- of any other edition: EDITION
  pub other_between_from : (c.head.edition ≡ runs → ⊥) → first_between_from bytes o a b ≡ refused EDITION 0
  unfolding first_between_from and_then edition_in
  other_between_from t =
      rw (opens_not known bytes c e (runs ∷ []) (rw (ne_eqb (number_of c.head.edition) (number_of runs) (λ k. t (one_number _ _ k)))))

-- the call passes on what opening gives
pub between_from_says : (bytes : List ℕ) (o : ℕ) (a b : ℤ) (why w : ℕ)
    → open_column (runs ∷ []) bytes ≡ refused why w → first_between_from bytes o a b ≡ refused why w
unfolding first_between_from and_then
between_from_says bytes o a b why w e = rw e
