-- The tests of edition 3 accept a value section that keeps the header rules exactly if it is the section of its values, and the fields are
-- theirs. Assumes nothing.
use Rattle.format.specs.Kit.{◌≡◌, refl, sym, ap, ap₂, ◌∙◌, subst, true, List, [], ◌∷◌, ◌++◌, ℕ, zero, suc, ◌-◌, ◌*◌, ◌<◌, ◌≤◌, ◌∣◌, min, arith, length, get_or}
use Rattle.format.specs.Kit.{take, drop, take-append-drop, length-take, length-drop, mul-suc, ℤ}
use Rattle.format.specs.Bytes.{bytes_of}
use Rattle.format.specs.Values.{smallest, over, divisor}
use Rattle.format.specs.Pairs.{Below, Each, Fits}
use Rattle.format.specs.Codec.{Fields}
use Rattle.format.specs.ValueRuns.{run_length, run_count, directory_length, runs_in, runs_of, Summary, summary_at, summary_of, summaries, summary_bytes, run_section}
use Rattle.format.specs.ValueRuns.{in_runs}
use Rattle.format.specs.Editions.{runs, codec}
use Rattle.laws.proofs.Digits.{below_drop}
use Rattle.laws.proofs.Values.{divides_each}
use Rattle.laws.proofs.Bounds.{divisor_is}
use Rattle.laws.proofs.Lawful.{Storable}
use Rattle.laws.proofs.ValueRuns.{RunAt, run_divides, rest_is}
use Rattle.laws.proofs.InRuns.{runs_count, its_run, run_each, run_here}
use Rattle.laws.proofs.Editions.{runs_takes, runs_fields, runs_section}
use Rattle.laws.proofs.Halves.{ValuesOf, Kept, Tested}
use Rattle.run_values.proofs.Reached.{Rules, rules_kept}
use Rattle.run_check.specs.RunsOk.{divisor_ok, runs_ok, values_ok}
use Rattle.run_check.proofs.Divisor.{joined, EachRun, Divided, apart_in, common_in, runs_divisor, divisor_sound, divisor_complete}
use Rattle.run_check.proofs.Directory.{summaries_at, directory_again}
use Rattle.run_check.proofs.Shape.{joined_length, runs_joined, joined_each}
use Rattle.run_check.proofs.Sound.{Good, runs_sound}
use Rattle.run_check.proofs.Complete.{runs_complete}

-- ---- sound

-- the first run's smallest value is the base
first_sum : (g : ℕ) (s : List ℕ) (k r at : ℕ) (rs : List (List ℤ)) → 0 < length rs → length rs ≡ k → summaries g at rs ≡ summaries_at s k r
    → (summary_at s r).smallest ≡ smallest (get_or rs 0 [])
unfolding summaries summaries_at summary_of
first_sum g s k r at [] h e f = absurd (omega arith)
first_sum g s zero r at (x ∷ xs) h e f = absurd (omega arith)
first_sum g s (suc k) r at (x ∷ xs) h e f = sym (ap (λ (l : List Summary). (get_or l 0 (summary_at s r)).smallest) f)

sound : (n : ℕ) (f : Fields) (s : List ℕ) → Kept (codec runs) n f s → values_ok n f s ≡ true → ValuesOf (codec runs) n f s
unfolding values_ok runs_of run_section
sound n f s k t =
    let g : ℕ = f.divisor in
    let rest : List ℕ = drop (directory_length n) s in
    let r : Rules n f (length s) = rules_kept n f (length s) k.rules in
    let h : Good g r.positive s rest n k.bytes (below_drop 256 (directory_length n) s k.bytes) r.directory (run_count n) 0 0 0 0 =
    runs_sound g r.positive s rest n k.bytes (below_drop 256 (directory_length n) s k.bytes) r.directory (run_count n) 0 0 0 0 (omega arith) t in
    let rs : List (List ℤ) = h.rs in
    let vs : List ℤ = joined rs in
    let many : length vs ≡ n = omega (arith, joined_length (n - run_length * 0) rs h.shape) in
    let own : divisor vs ≡ g =
    runs_divisor g (summary_at s 0).smallest rs h.divided (λ some. first_sum g s (run_count n) 0 0 rs some h.many h.sums)
    ∙ divisor_sound g (apart_in (summary_at s 0).smallest 0 rs) (common_in g 0 rs) r.positive h.final in
    let same : runs_in (run_count (length vs)) vs ≡ rs =
    ap (λ (i : ℕ). runs_in i vs) (ap run_count many ∙ sym h.many) ∙ runs_joined (n - run_length * 0) rs h.shape in
    let dir : bytes_of summary_bytes (summaries g 0 rs) ≡ take (directory_length n) s =
    ap (bytes_of summary_bytes) h.sums ∙ directory_again s k.bytes (run_count n) 0 (omega (arith, r.directory)) in
    let w : 0 ≡ f.width = sym r.no_width in
    let m : 0 ≡ f.smallest = sym r.no_smallest in
    record {
      values = vs;
      fit = joined_each Fits rs h.fit;
      taken = runs_takes vs;
      fields = runs_fields vs ∙ (λ i. record { width = w i; smallest = m i; divisor = own i });
      bytes =
          runs_section vs ∙ ap₂ run_section own same ∙ ap₂ (λ (a b : List ℕ). a ++ b) dir h.bytes ∙ take-append-drop (directory_length n) s;
      count = many;
    }

-- ---- complete

by_index : (P : List ℤ → Type 0) (rs : List (List ℤ)) → ((r : ℕ) → r < length rs → P (get_or rs r [])) → EachRun P rs
by_index P [] h = tt
by_index P (r ∷ rs) h = (h 0 (omega arith), by_index P rs (λ i k. h (suc i) (omega arith)))

joined_runs : (k : ℕ) (vs : List ℤ) → length vs ≤ run_length * k → joined (runs_in k vs) ≡ vs
unfolding joined runs_in
joined_runs zero [] h = refl
joined_runs zero (v ∷ vs) h = absurd (omega arith)
joined_runs (suc k) vs h =
    ap (λ (l : List ℤ). take run_length vs ++ l)
    (joined_runs k (drop run_length vs) (omega (arith, length-drop run_length vs, mul-suc run_length k)))
    ∙ take-append-drop run_length vs

module _ (vs : List ℤ) (ok : Storable in_runs vs) (u : Below 256 (run_section (divisor vs) (runs_of vs))) where
  abbrev g : ℕ
  g = divisor vs

  abbrev rs : List (List ℤ)
  rs = runs_of vs

  abbrev s : List ℕ
  s = run_section g rs

  abbrev rest : List ℕ
  rest = drop (directory_length (length vs)) s

  p : 0 < g
  p = (divisor_is vs ok.fit).0

  there : (r : ℕ) → r < length rs → RunAt g s rest rs r
  there r h = run_here vs ok r (omega (arith, runs_count vs))

  long : (r : ℕ) → r < length rs → length (get_or rs r []) ≡ min run_length (length vs - run_length * r)
  long r h =
      ap length (its_run vs r (omega (arith, runs_count vs))) ∙ length-take run_length (drop (run_length * r) vs)
      ∙ ap (min run_length) (length-drop (run_length * r) vs)

  divides : (r : ℕ) → r < length rs → Each (λ v. g ∣ over (smallest (get_or rs r [])) v) (get_or rs r [])
  divides r h =
      run_divides g (smallest vs) (get_or rs r []) (run_each vs (λ v. g ∣ over (smallest vs) v) (divides_each vs) r (omega (arith, runs_count vs)))

  some : (r : ℕ) → r < length rs → 0 < length (get_or rs r [])
  some r h = omega (arith, long r h, runs_count vs)

  whole : joined rs ≡ vs
  unfolding runs_of
  whole = joined_runs (run_count (length vs)) vs (omega arith)

  final : divisor_ok g (apart_in (summary_at s 0).smallest 0 rs) (common_in g 0 rs) ≡ true
  unfolding summary_of
  final =
      divisor_complete g (apart_in (summary_at s 0).smallest 0 rs) (common_in g 0 rs) p
      (sym
      (runs_divisor g (summary_at s 0).smallest rs (by_index (Divided g) rs (λ r h. record { some = some r h; divides = divides r h }))
      (λ h. ap (λ (x : Summary). x.smallest) (there 0 h).summary))
      ∙ ap divisor whole)

  all_pass : runs_ok g s rest (length vs) (run_count (length vs)) 0 0 0 0 ≡ true
  unfolding bytes_of
  all_pass =
      runs_complete g p s rest (length vs) (below_drop 256 (directory_length (length vs)) s u) rs (runs_count vs) there
      (sym (ap length (ap (λ (k : ℕ). drop (25 * k) s) (sym (runs_count vs)) ∙ rest_is g rs))) long
      (λ r h. run_each vs Fits ok.fit r (omega (arith, runs_count vs))) divides (run_count (length vs)) 0 0 0 0 (omega arith) refl final

complete : (n : ℕ) (f : Fields) (s : List ℕ) → Kept (codec runs) n f s → ValuesOf (codec runs) n f s → values_ok n f s ≡ true
unfolding values_ok in_runs
complete n f s k v =
    let vs : List ℤ = v.values in
    let ok : Storable in_runs vs = record { taken = refl; few = omega (arith, v.count, k.few); fit = v.fit } in
    let bytes : run_section (divisor vs) (runs_of vs) ≡ s = sym (runs_section vs) ∙ v.bytes in
    let own : divisor vs ≡ f.divisor = ap (λ (x : Fields). x.divisor) (sym (runs_fields vs) ∙ v.fields) in
    subst (λ (i : ℕ). runs_ok f.divisor s (drop (directory_length i) s) i (run_count i) 0 0 0 0 ≡ true) v.count
    (subst (λ (d : ℕ). runs_ok d s (drop (directory_length (length vs)) s) (length vs) (run_count (length vs)) 0 0 0 0 ≡ true) own
    (subst (λ (l : List ℕ). runs_ok (divisor vs) l (drop (directory_length (length vs)) l) (length vs) (run_count (length vs)) 0 0 0 0 ≡ true) bytes
    (all_pass vs ok (subst (Below 256) (sym bytes) k.bytes))))

-- the tests take just what some n values are written as
pub runs_tested : Tested (codec runs) values_ok
runs_tested = record { sound = sound; complete = complete }
