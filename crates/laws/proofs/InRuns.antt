-- The codec of edition 3 is lawful (document 02, [11]). Assumes nothing.
use Rattle.format.specs.Kit.{◌≡◌, sym, ap, ◌∙◌, subst, Bool, true, false, cond, ◌&&◌, ◌||◌, List, [], none, some, ℕ, ◌+◌, ◌*◌, ◌/◌, ◌%◌, ◌^◌, ◌<◌, ◌≤◌}
use Rattle.format.specs.Kit.{◌∣◌, arith, lit<, length, get_or, take, drop, length-append, length-take, length-drop, get_or-take, get_or-drop, leb, eqb, le-leb}
use Rattle.format.specs.Kit.{ℤ, pos}
use Rattle.format.specs.Limits.{max_width}
use Rattle.format.specs.Bytes.{bytes_of}
use Rattle.format.specs.Bits.{fetched}
use Rattle.format.specs.Values.{smallest, over, divisor, value_at}
use Rattle.format.specs.Pairs.{Each, Fits}
use Rattle.format.specs.Codec.{signed64}
use Rattle.format.specs.ValueRuns.{run_length, run_count, directory_length, runs_of, run_bytes, Summary, summary_at, summaries, summary_bytes, run_section, in_run}
use Rattle.format.specs.ValueRuns.{in_runs}
use Rattle.laws.proofs.Values.{divides_each}
use Rattle.laws.proofs.Bounds.{divisor_is}
use Rattle.laws.proofs.Lawful.{Storable, SmallFields, Lawful}
use Rattle.laws.proofs.Scaled.{signed_fits}
use Rattle.laws.proofs.ValueRuns.{each_take, each_drop, run_divides, length_runs, run_is, runs_le, length_directory, RunAt, RunsFit, rest_is, run_at}
use Rattle.laws.proofs.ValueRuns.{in_run_lem}

module _ (vs : List ℤ) where
  abbrev n : ℕ
  n = run_count (length vs)

  abbrev g : ℕ
  g = divisor vs

  abbrev rs : List (List ℤ)
  rs = runs_of vs

  pub runs_count : length rs ≡ n
  unfolding runs_of
  runs_count = length_runs n vs

  -- the run of a value, and the value's place in it
  pub its_run : (r : ℕ) → r < n → get_or rs r [] ≡ take run_length (drop (run_length * r) vs)
  unfolding runs_of
  its_run r h = run_is n r vs h

  pub run_each : (P : ℤ → Type 0) → Each P vs → (r : ℕ) → r < n → Each P (get_or rs r [])
  run_each P t r h = subst (Each P) (sym (its_run r h)) (each_take P run_length (drop (run_length * r) vs) (each_drop P (run_length * r) vs t))

  pub run_long : (r k : ℕ) → r < n → k < run_length → run_length * r + k < length vs → k < length (get_or rs r [])
  run_long r k h a b =
      rw (its_run r h) (omega (arith, length-take run_length (drop (run_length * r) vs), length-drop (run_length * r) vs))

  pub run_value : (r k : ℕ) → r < n → k < run_length → get_or (get_or rs r []) k (pos 0) ≡ get_or vs (run_length * r + k) (pos 0)
  run_value r k h a =
      rw (its_run r h) (get_or-take run_length (drop (run_length * r) vs) k (pos 0) a ∙ get_or-drop (run_length * r) vs k (pos 0))

  -- ---- the section

  section_is : in_runs.section vs ≡ run_section g rs
  unfolding in_runs
  section_is = λ i. run_section g rs

  pub length_section : length (run_section g rs) ≡ directory_length (length vs) + length (bytes_of (run_bytes g) rs)
  unfolding run_section
  length_section =
      length-append (bytes_of summary_bytes (summaries g 0 rs)) (bytes_of (run_bytes g) rs)
      ∙ ap (λ (k : ℕ). k + length (bytes_of (run_bytes g) rs)) (length_directory g 0 rs ∙ ap (λ (k : ℕ). 25 * k) runs_count)

  pub section_le : Each Fits vs → length (run_section g rs) ≤ directory_length (length vs) + 8 * length vs
  unfolding runs_of
  section_le t = omega (arith, length_section, runs_le g n vs t)

  module _ (ok : Storable in_runs vs) where
    pub runs_fit : RunsFit g rs
    unfolding runs_of
    runs_fit =
        record {
          fit = λ r h. run_each Fits ok.fit r (omega (arith, runs_count));
          small = omega (arith, runs_le g n vs ok.fit, ok.few);
        }

    -- where each run stands
    pub run_here : (r : ℕ) → r < n → RunAt g (run_section g rs) (drop (directory_length (length vs)) (run_section g rs)) rs r
    run_here r h =
        subst (λ (l : List ℕ). RunAt g (run_section g rs) l rs r)
        (sym (rest_is g rs) ∙ ap (λ (k : ℕ). drop (25 * k) (run_section g rs)) runs_count)
        (run_at g rs runs_fit r (omega (arith, runs_count)))

    small_numbers : SmallFields (in_runs.fields vs)
    unfolding in_runs
    small_numbers = (lit< tt, (lit< tt, ((divisor_is vs ok.fit).1, tt)))

    small_bytes : length (in_runs.section vs) < 2 ^ 64
    small_bytes = rw section_is (omega (arith, section_le ok.fit, ok.few))

    keeps : in_runs.fields_ok (length vs) (in_runs.fields vs) (length (in_runs.section vs)) ≡ true
    unfolding in_runs
    keeps =
        rw (le-leb 1 (divisor vs) (divisor_is vs ok.fit).0, le-leb (directory_length (length vs)) (length (run_section g rs)) (omega (arith, length_section)))

    comes_back : (i : ℕ) → i < length vs → in_runs.value (length vs) (in_runs.fields vs) (in_runs.section vs) i ≡ some (get_or vs i (pos 0))
    unfolding in_runs
    comes_back i h =
        let r : ℕ = i / run_length in
        let k : ℕ = i % run_length in
        let q : r < n = omega arith in
        let a : k < run_length = omega arith in
        let parts : run_length * r + k ≡ i = omega arith in
        in_run_lem g (run_section g rs) _ rs r (run_here r q) (divisor_is vs ok.fit).0 (run_each Fits ok.fit r q)
        (run_divides g (smallest vs) (get_or rs r []) (run_each (λ v. g ∣ over (smallest vs) v) (divides_each vs) r q)) k (run_long r k q a (omega arith))
        ∙ ap (λ (v : ℤ). some v) (run_value r k q a ∙ ap (λ (j : ℕ). get_or vs j (pos 0)) parts)

in_fits : (t : Bool) (u v : ℤ) → cond t (signed64 u) none ≡ some v → Fits v
in_fits true u v e = signed_fits u v e
in_fits false u v e = absurd (let z : ◌≡◌ {A = ℕ} 0 1 = cc in omega arith)

run_fits : (g : ℕ) (rest : List ℕ) (x : Summary) (k : ℕ) (v : ℤ) → in_run g rest x k ≡ some v → Fits v
unfolding in_run
run_fits g rest x k v e =
    in_fits (leb x.width max_width && (eqb x.width 0 || leb (k * x.width + x.width) (8 * length (drop x.start rest))))
    (value_at x.smallest g (fetched (drop x.start rest) x.width k)) v e

pub runs_lawful : Lawful in_runs
unfolding in_runs
runs_lawful =
    record {
      small_fields = small_numbers;
      small_section = small_bytes;
      rules = keeps;
      back = comes_back;
      fit = λ n f s i v e. run_fits f.divisor (drop (directory_length n) s) (summary_at s (i / run_length)) (i % run_length) v e;
    }
