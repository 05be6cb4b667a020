-- Document 02, [11], the question: on accepted columns it is the plain scan of the values, and from an opened column it is the same as from
-- the bytes. Assumes nothing.
use Rattle.format.specs.Kit.{◌≡◌, refl, sym, ap, ◌∙◌, subst, true, false, and-false, List, [], ◌∷◌, Option, none, some, ℕ, zero, suc, ◌+◌, ◌-◌, ◌*◌, ◌<◌}
use Rattle.format.specs.Kit.{min, add-zero, mul-suc, arith, T, eqb, leb→le, length, get_or, take, drop, length-take, length-drop, drop-drop, get_or-take}
use Rattle.format.specs.Kit.{get_or-drop, drop_of_length-le, eqb-true, ne_eqb, lt-ltb, lt-leb, leb-false, ltb-true, ℤ, pos, negsuc, le_z, lt_z}
use Rattle.format.specs.Refusals.{Outcome, done, refused, and_then, need, given, EDITION, HEADER, LENGTH}
use Rattle.format.specs.HeaderNumbers.{number_at, numbers_at}
use Rattle.format.specs.Values.{smallest, greatest, divisor}
use Rattle.format.specs.Pairs.{Pairs, Each}
use Rattle.format.specs.Valid.{Valid}
use Rattle.format.specs.ValueRuns.{run_length, run_count, Summary, summary_at, summary_of}
use Rattle.format.specs.Editions.{Edition, runs, number_of, edition_in, Knows, codec}
use Rattle.format.specs.Column.{head_of, column}
use Rattle.format.specs.Opening.{Opened, head_from, head_ok, length_ok, open_column, value_part, value_of}
use Rattle.format.specs.Check.{accepted}
use Rattle.format.specs.FirstBetween.{between, skipped, scan_from, runs_from, between_steps, first_between, first_between_in, first_in}
use Rattle.laws.proofs.Cases.{true_or}
use Rattle.laws.proofs.Tests.{result, needed, passed, given_some}
use Rattle.laws.proofs.Values.{each_map, smallest_each, greatest_each}
use Rattle.laws.proofs.Editions.{found_number, one_number, lawful, lawful_reader, runs_section}
use Rattle.laws.proofs.InRuns.{its_run, run_here}
use Rattle.laws.proofs.RoundTrip.{storable, the_head, the_column, opened, values_part, value_back}
use Rattle.laws.proofs.Open.{opened_ok}
use Rattle.laws.proofs.Unique.{is_read}

-- ---- the order

-- v below a is not a or above
below_not : (a v : ℤ) → lt_z v a ≡ true → le_z a v ≡ false
below_not (pos a) (pos v) e = lt-leb a v (ltb-true v a e)
below_not (pos a) (negsuc v) e = refl
below_not (negsuc a) (pos v) e = absurd (let z : ◌≡◌ {A = ℕ} 0 1 = cc in omega arith)
below_not (negsuc a) (negsuc v) e = lt-leb v a (ltb-true a v e)

lt_le : (a b c : ℤ) → lt_z a b ≡ true → T (le_z b c) → lt_z a c ≡ true
lt_le (pos a) (pos b) (pos c) e h = lt-ltb a c (omega (arith, ltb-true a b e, leb→le b c h))
lt_le (pos a) (pos b) (negsuc c) e h = absurd h
lt_le (pos a) (negsuc b) c e h = absurd (let z : ◌≡◌ {A = ℕ} 0 1 = cc in omega arith)
lt_le (negsuc a) b (pos c) e h = refl
lt_le (negsuc a) (pos b) (negsuc c) e h = absurd h
lt_le (negsuc a) (negsuc b) (negsuc c) e h = lt-ltb c a (omega (arith, ltb-true b a e, leb→le c b h))

le_lt : (a b c : ℤ) → T (le_z a b) → lt_z b c ≡ true → lt_z a c ≡ true
le_lt (pos a) (pos b) (pos c) h e = lt-ltb a c (omega (arith, ltb-true b c e, leb→le a b h))
le_lt (pos a) (negsuc b) c h e = absurd h
le_lt (pos a) (pos b) (negsuc c) h e = absurd (let z : ◌≡◌ {A = ℕ} 0 1 = cc in omega arith)
le_lt (negsuc a) b (pos c) h e = refl
le_lt (negsuc a) (pos b) (negsuc c) h e = absurd (let z : ◌≡◌ {A = ℕ} 0 1 = cc in omega arith)
le_lt (negsuc a) (negsuc b) (negsuc c) h e = lt-ltb c a (omega (arith, ltb-true c b e, leb→le b a h))

not_le : (a b : ℤ) → le_z a b ≡ false → lt_z b a ≡ true
not_le (pos a) (pos b) e = lt-ltb b a (leb-false a b e)
not_le (pos a) (negsuc b) e = refl
not_le (negsuc a) (pos b) e = absurd (let z : ◌≡◌ {A = ℕ} 0 1 = cc in omega arith)
not_le (negsuc a) (negsuc b) e = lt-ltb a b (leb-false b a e)

-- ---- the scan of a list

-- the first, or what is found later
abbrev pub or_else : Option ℕ → Option ℕ → Option ℕ
or_else (some i) later = some i
or_else none later = later

module _ (a b : ℤ) where
  pub first_split : (m i : ℕ) (vs : List ℤ) → first_in a b i vs ≡ or_else (first_in a b i (take m vs)) (first_in a b (i + m) (drop m vs))
  unfolding first_in
  first_split zero i vs = rw (add-zero i)
  first_split (suc m) i [] = refl
  first_split (suc m) i (v ∷ vs) =
      let e : suc i + m ≡ i + suc m = omega arith in
      let ih = rw e at (first_split m (suc i) vs) in
      true_or (between a b v) (λ t. rw t) (λ t. rw t ih)

  none_found : (i : ℕ) (vs : List ℤ) → Each (λ v. between a b v ≡ false) vs → first_in a b i vs ≡ none
  unfolding first_in
  none_found i [] t = refl
  none_found i (v ∷ vs) t = rw t.0 (none_found (suc i) vs t.1)

  -- by step 7 in turn, where each value is there
  pub scan_list : (f : ℕ → Option ℤ) (vs : List ℤ) (i : ℕ) (more : Option ℕ) → ((j : ℕ) → j < length vs → f (i + j) ≡ some (get_or vs j (pos 0)))
      → scan_from f a b (length vs) i (done more) ≡ done (or_else (first_in a b i vs) more)
  unfolding first_in scan_from and_then given
  scan_list f [] i more h = refl
  scan_list f (v ∷ vs) i more h =
      let one : f i ≡ some v = ap f (sym (add-zero i)) ∙ h 0 (omega arith) in
      let ih = scan_list f vs (suc i) more (λ j k. let e : i + suc j ≡ suc i + j = omega arith in ap f (sym e) ∙ h (suc j) (omega arith)) in
      rw one (true_or (between a b v) (λ t. rw t) (λ t. rw t ih))

  -- ---- a run that is skipped holds no such value

  above_b : (vs : List ℤ) → lt_z b (smallest vs) ≡ true → Each (λ v. between a b v ≡ false) vs
  above_b vs e =
      each_map {Q = λ v. between a b v ≡ false} (λ v h. rw (below_not v b (lt_le b (smallest vs) v e h)) (and-false (le_z a v))) vs (smallest_each vs)

  below_a : (vs : List ℤ) → lt_z (greatest vs) a ≡ true → Each (λ v. between a b v ≡ false) vs
  below_a vs e =
      each_map {Q = λ v. between a b v ≡ false} (λ v h. rw (below_not a v (le_lt v (greatest vs) a h e))) vs (greatest_each vs)

  pub skip_none : (g at i : ℕ) (vs : List ℤ) → skipped a b (summary_of g at vs) ≡ true → first_in a b i vs ≡ none
  unfolding summary_of
  skip_none g at i vs e =
      true_or (lt_z b (smallest vs))
      (λ t. none_found i vs (above_b vs t))
      (λ t. none_found i vs (below_a vs (rw t at e)))

  -- a > b
  pub none_at_all : le_z a b ≡ false → (i : ℕ) (vs : List ℤ) → first_in a b i vs ≡ none
  none_at_all t i vs = none_found i vs (each_map {Q = λ v. between a b v ≡ false} (λ v h. out v) vs (smallest_each vs))
    where
      out : (v : ℤ) → between a b v ≡ false
      out v = true_or (le_z a v) (λ l. rw l (below_not v b (lt_le b a v (not_le a b t) (rw l tt)))) (λ l. rw l)

  -- ---- run by run

  module _ (f : ℕ → Option ℤ) (x : ℕ → Summary) (vs : List ℤ) (there : (i : ℕ) → i < length vs → f i ≡ some (get_or vs i (pos 0)))
      (its : (r : ℕ) → r < run_count (length vs) → (g : ℕ) × ((at : ℕ) × (x r ≡ summary_of g at (take run_length (drop (run_length * r) vs))))) where
    abbrev n : ℕ
    n = length vs

    pub in_run_lem : (r j : ℕ) → j < length (take run_length (drop (run_length * r) vs))
        → f (run_length * r + j) ≡ some (get_or (take run_length (drop (run_length * r) vs)) j (pos 0))
    in_run_lem r j h =
        let i : ℕ = run_length * r in
        let few : j < min run_length (n - i) = subst (λ (m : ℕ). j < m) (length-take run_length (drop i vs) ∙ ap (min run_length) (length-drop i vs)) h in
        there (i + j) (omega arith)
        ∙ ap (λ (v : ℤ). some v) (sym (get_or-take run_length (drop i vs) j (pos 0) (omega arith) ∙ get_or-drop i vs j (pos 0)))

    pub run_scanned : (k r : ℕ) → r + k ≡ run_count n → runs_from f x a b n k r ≡ done (first_in a b (run_length * r) (drop (run_length * r) vs))
    unfolding runs_from first_in
    run_scanned zero r e = rw (drop_of_length-le vs {i = run_length * r} (omega arith))
    run_scanned (suc k) r e =
        let i : ℕ = run_length * r in
        let rest : List ℤ = drop i vs in
        let run : List ℤ = take run_length rest in
        let after : Option ℕ = first_in a b (i + run_length) (drop run_length rest) in
        let past : i + run_length ≡ run_length * suc r = omega (arith, mul-suc run_length r) in
        let long : min run_length (n - i) ≡ length run = sym (length-take run_length rest ∙ ap (min run_length) (length-drop i vs)) in
        let later : runs_from f x a b n k (suc r) ≡ done after =
        run_scanned k (suc r) (omega arith) ∙ sym (rw (drop-drop run_length i vs, past)) in
        let parts : or_else (first_in a b i run) after ≡ first_in a b i rest = sym (first_split run_length i rest) in
        let scan : scan_from f a b (length run) i (done after) ≡ done (first_in a b i rest) =
        scan_list f run i after (in_run_lem r) ∙ ap (λ (o : Option ℕ). done o) parts in
        let own = its r (omega arith) in
        true_or (skipped a b (x r))
        (λ t.
        let none_here : first_in a b i run ≡ none = skip_none own.0 own.1.0 i run (ap (skipped a b) (sym own.1.1) ∙ t) in
        rw (t, later) (ap (λ (o : Option ℕ). done o) (sym (ap (λ (o : Option ℕ). or_else o after) none_here) ∙ parts)))
        (λ t. rw (t, later, long) scan)

-- ---- the column of a list

pub only_runs : Knows (runs ∷ []) runs
unfolding edition_in number_of
only_runs = refl

module _ (p : ℕ) (ids : List ℕ) (vs : List ℤ) (ok : Valid runs p ids vs) where
  abbrev bytes : List ℕ
  bytes = column runs p ids vs

  abbrev col : Opened
  col = the_column runs p ids vs

  pub values_there : (i : ℕ) → i < length vs → value_of bytes col i ≡ some (get_or vs i (pos 0))
  unfolding value_of the_column
  values_there i h = rw (values_part runs (lawful runs) p ids vs ok) (value_back runs (lawful runs) p ids vs ok i h)

  pub its_summary : (r : ℕ) → r < run_count (length vs)
      → (g : ℕ) × ((at : ℕ) × (summary_at (value_part bytes col) r ≡ summary_of g at (take run_length (drop (run_length * r) vs))))
  unfolding codec
  its_summary r h = (
    divisor vs,
    (
      _,
      ap (λ (s : List ℕ). summary_at s r) (values_part runs (lawful runs) p ids vs ok ∙ runs_section vs)
          ∙ (run_here vs (storable p ids vs ok) r h).summary ∙ ap (summary_of (divisor vs) _) (its_run vs r h),
    ),
  )

  pub counted : col.head.count ≡ length vs
  unfolding the_column the_head head_of
  counted = ok.lengths

  steps_scan : (a b : ℤ) → between_steps bytes col a b ≡ done (first_in a b 0 vs)
  unfolding between_steps
  steps_scan a b =
      let f : ℕ → Option ℤ = value_of bytes col in
      let x : ℕ → Summary = summary_at (value_part bytes col) in
      true_or (le_z a b)
      (λ t. rw t
      (ap (λ (n : ℕ). runs_from f x a b n (run_count n) 0) counted
      ∙ run_scanned a b f x vs values_there its_summary (run_count (length vs)) 0 (omega arith)))
      (λ t. rw t (ap (λ (o : Option ℕ). done o) (sym (none_at_all a b t 0 vs))))

  pub column_between : (a b : ℤ) → first_between bytes a b ≡ done (first_in a b 0 vs)
  unfolding first_between and_then
  column_between a b = rw (opened runs (lawful runs) p ids vs ok (runs ∷ []) only_runs) (steps_scan a b)

-- ---- any bytes: another reader of the same bytes

-- what follows the first header number
abbrev after_edition : List ℕ → ℕ → Edition → Outcome Opened
after_edition bytes at ed =
    and_then (numbers_at 8 bytes at) (λ r.
    let c : Opened = record { head = head_from ed r.0; start = r.1 } in
    need (head_ok c.head) HEADER 0 (need (length_ok bytes c) LENGTH 0 (done c)))

-- how opening went
record Began (bytes : List ℕ) (c : Opened) : Type 0 where
  at : ℕ
  number : number_at bytes 0 ≡ done (number_of c.head.edition, at)
  goes : after_edition bytes at c.head.edition ≡ done c

began : (known : List Edition) (bytes : List ℕ) (c : Opened) → open_column known bytes ≡ done c → Began bytes c
unfolding open_column head_from
began known bytes c o =
    let s1 = passed _ _ c o in
    let s2 = passed _ _ c s1.2 in
    let s3 = passed _ _ c s2.2 in
    let s5 = needed _ _ _ _ c (needed _ _ _ _ c s3.2).1 in
    let ed : s2.0 ≡ c.head.edition = ap (λ (x : Opened). x.head.edition) (ap (result c) s5.1) in
    let own : s1.0.0 ≡ number_of c.head.edition = found_number known s1.0.0 s2.0 (given_some _ _ _ _ s2.1) ∙ ap number_of ed in
    record {
      at = s1.0.1;
      number = s1.1 ∙ ap {B = Outcome (ℕ × ℕ)} (λ (k : ℕ). done (k, s1.0.1)) own;
      goes = ap (after_edition bytes s1.0.1) (sym ed) ∙ s2.2;
    }

module _ (known : List Edition) (bytes : List ℕ) (c : Opened) (o : open_column known bytes ≡ done c) (other : List Edition) where
  -- it opens them as this one does, if it knows their edition
  pub opens_too : Knows other c.head.edition → open_column other bytes ≡ done c
  unfolding open_column and_then given
  opens_too k = let b = began known bytes c o in rw (b.number, k) b.goes

  -- and refuses them if it does not
  pub opens_not : edition_in other (number_of c.head.edition) ≡ none → open_column other bytes ≡ refused EDITION 0
  unfolding open_column and_then given
  opens_not k = let b = began known bytes c o in rw (b.number, k)

-- a column that was opened before, by a reader of any editions: the same answer as from the bytes
pub opened_between : (known : List Edition) (bytes : List ℕ) (c : Opened) (a b : ℤ) → open_column known bytes ≡ done c
    → first_between_in bytes c a b ≡ first_between bytes a b
unfolding first_between_in first_between need and_then edition_in
opened_between known bytes c a b o =
    let k = opened_ok known bytes c o in
    true_or (eqb (number_of c.head.edition) (number_of runs))
    (λ e. rw (opens_too known bytes c o (runs ∷ []) (rw e (ap (λ (x : Edition). some x) (sym (one_number _ _ (eqb-true _ _ e))))), e, k.rules, k.lengths))
    (λ e. rw (opens_not known bytes c o (runs ∷ []) (rw e), e))

-- ---- accepted columns

-- of edition 3: the plain scan of the list that they hold
pub accepted_between : (known : List Edition) (bytes : List ℕ) (c : Opened) (q : Pairs) → open_column known bytes ≡ done c → accepted bytes c ≡ done q
    → c.head.edition ≡ runs → (a b : ℤ) → first_between bytes a b ≡ done (first_in a b 0 q.values)
accepted_between known bytes c q o acc e a b =
    let r = is_read known (lawful_reader known) bytes c q o acc in
    let here : column runs c.head.power q.ids q.values ≡ bytes =
    ap (λ (ed : Edition). column ed c.head.power q.ids q.values) (sym e) ∙ r.bytes_are in
    ap (λ (l : List ℕ). first_between l a b) (sym here)
    ∙ column_between c.head.power q.ids q.values
    (subst (λ (ed : Edition). Valid ed c.head.power q.ids q.values) e r.valid) a b

-- of any other edition: EDITION
pub other_between : (known : List Edition) (bytes : List ℕ) (c : Opened) → open_column known bytes ≡ done c → (c.head.edition ≡ runs → ⊥)
    → (a b : ℤ) → first_between bytes a b ≡ refused EDITION 0
unfolding first_between and_then edition_in
other_between known bytes c o e a b =
    rw (opens_not known bytes c o (runs ∷ []) (rw (ne_eqb (number_of c.head.edition) (number_of runs) (λ k. e (one_number _ _ k)))))
