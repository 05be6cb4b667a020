-- Document 02, [11]: "one g for the whole column as in [2], own smallest value and least width per run", and "the first run starting at 0 and each later one on
-- the first byte after the run before, nothing after the last". For any number of runs. Assumes nothing.
use Rattle.format.specs.Kit.{◌≡◌, refl, sym, ap, ap₂, ◌∙◌, subst, List, [], ◌∷◌, ◌++◌, map, ℕ, zero, suc, ◌+◌, ◌*◌, ◌^◌, ◌≤◌, ◌<◌, ◌∣◌, arith}
use Rattle.format.specs.Kit.{ℤ, length, get_or, take, drop, length-append, drop-drop}
use Rattle.format.specs.Bytes.{bytes_of}
use Rattle.format.specs.Bits.{packed_bytes}
use Rattle.format.specs.Values.{smallest, greatest, over, divisor, stored_with, width_with}
use Rattle.format.specs.Pairs.{Below, Each}
use Rattle.format.specs.Editions.{runs, codec}
use Rattle.format.specs.ValueRuns.{run_length, run_count, directory_length, runs_of, run_bytes, Summary, summary_of, summary_at, run_section, in_runs}
use Rattle.laws.proofs.Values.{divides_each}
use Rattle.laws.proofs.Bounds.{divisor_pos}
use Rattle.laws.proofs.MeaningValues.{no_remainder_by, stored_fit, stored_least}
use Rattle.laws.proofs.Lawful.{Storable}
use Rattle.laws.proofs.Editions.{runs_section}
use Rattle.laws.proofs.ValueRuns.{run_divides, length_run, run_start, start_more}
use Rattle.laws.proofs.InRuns.{runs_count, its_run, run_each, run_here, length_section}

-- ---- run r of a column's values, and what the directory of its section says of it

abbrev pub run_of : List ℤ → ℕ → List ℤ
run_of vs r = take run_length (drop (run_length * r) vs)

pub record RunStands (vs : List ℤ) (s : List ℕ) (r : ℕ) : Type 0 where
  -- its own smallest and greatest value
  pub smallest_is : (summary_at s r).smallest ≡ smallest (run_of vs r)
  pub greatest_is : (summary_at s r).greatest ≡ greatest (run_of vs r)
  -- (v - its smallest) / g for the column's g, without remainder
  pub exact : map (λ x. divisor vs * x) (stored_with (divisor vs) (run_of vs r)) ≡ map (over (smallest (run_of vs r))) (run_of vs r)
  -- the least width that holds these numbers
  pub width_holds : Below (2 ^ (summary_at s r).width) (stored_with (divisor vs) (run_of vs r))
  pub width_least : (w : ℕ) → Below (2 ^ w) (stored_with (divisor vs) (run_of vs r)) → (summary_at s r).width ≤ w
  -- its bytes, from its start after the directory on
  pub size : length (run_bytes (divisor vs) (run_of vs r)) ≡ packed_bytes (length (run_of vs r)) (summary_at s r).width
  pub more : List ℕ
  pub bytes : drop (directory_length (length vs) + (summary_at s r).start) s ≡ run_bytes (divisor vs) (run_of vs r) ++ more
  -- the first run starts at 0, the next one on the first byte after this one, and nothing follows the last
  pub first : r ≡ 0 → (summary_at s r).start ≡ 0
  pub next : suc r < run_count (length vs) → (summary_at s (suc r)).start ≡ (summary_at s r).start + length (run_bytes (divisor vs) (run_of vs r))
  pub last : suc r ≡ run_count (length vs)
      → directory_length (length vs) + (summary_at s r).start + length (run_bytes (divisor vs) (run_of vs r)) ≡ length s

module _ (vs : List ℤ) (ok : Storable in_runs vs) where
  abbrev g : ℕ
  g = divisor vs

  abbrev rs : List (List ℤ)
  rs = runs_of vs

  abbrev s : List ℕ
  s = run_section g rs

  start : (r : ℕ) → r < run_count (length vs) → (summary_at s r).start ≡ run_start g rs r
  unfolding summary_of
  start r h = ap (λ (x : Summary). x.start) (run_here vs ok r h).summary

  width : (r : ℕ) → r < run_count (length vs) → (summary_at s r).width ≡ width_with g (run_of vs r)
  unfolding summary_of
  width r h = ap (λ (x : Summary). x.width) (run_here vs ok r h).summary ∙ ap (width_with g) (its_run vs r h)

  run_bytes_lem : (r : ℕ) → r < run_count (length vs) → run_bytes g (get_or rs r []) ≡ run_bytes g (run_of vs r)
  run_bytes_lem r h = ap (run_bytes g) (its_run vs r h)

  -- all runs are the whole
  all_runs : (k : ℕ) (l : List (List ℤ)) → length l ≡ k → run_start g l k ≡ length (bytes_of (run_bytes g) l)
  unfolding bytes_of
  all_runs zero [] e = refl
  all_runs (suc k) [] e = absurd (omega arith)
  all_runs zero (x ∷ l) e = absurd (omega arith)
  all_runs (suc k) (x ∷ l) e =
      omega (
        arith,
        all_runs k l (omega arith),
        length-append (run_bytes g x) (bytes_of (run_bytes g) (take k l)),
        length-append (run_bytes g x) (bytes_of (run_bytes g) l),
      )

  ends : (r : ℕ) → suc r ≡ run_count (length vs) → directory_length (length vs) + (summary_at s r).start + length (run_bytes g (run_of vs r)) ≡ length s
  ends r e =
      let h : r < run_count (length vs) = omega arith in
      let more = start_more g rs r (omega (arith, runs_count vs)) in
      let full = all_runs (suc r) rs (runs_count vs ∙ sym e) in
      omega (arith, start r h, more, full, ap length (run_bytes_lem r h), length_section vs)

  stands : (r : ℕ) → r < run_count (length vs) → RunStands vs s r
  unfolding summary_of bytes_of
  stands r h =
      let w = width r h in
      let at = run_here vs ok r h in
      record {
        smallest_is = ap (λ (x : Summary). x.smallest) at.summary ∙ ap smallest (its_run vs r h);
        greatest_is = ap (λ (x : Summary). x.greatest) at.summary ∙ ap greatest (its_run vs r h);
        exact =
            no_remainder_by g (run_of vs r)
            (run_divides g (smallest vs) (run_of vs r)
            (subst (Each (λ v. g ∣ over (smallest vs) v)) (its_run vs r h) (run_each vs (λ v. g ∣ over (smallest vs) v) (divides_each vs) r h)));
        width_holds = subst (λ (k : ℕ). Below (2 ^ k) (stored_with g (run_of vs r))) (sym w) (stored_fit g (run_of vs r) (divisor_pos vs));
        width_least = λ k t. subst (λ (n : ℕ). n ≤ k) (sym w) (stored_least g (run_of vs r) k t);
        size = length_run g (run_of vs r) ∙ ap (packed_bytes (length (run_of vs r))) (sym w);
        more = at.more;
        bytes =
            ap (λ (n : ℕ). drop (directory_length (length vs) + n) s) (start r h)
            ∙ sym (drop-drop (run_start g rs r) (directory_length (length vs)) s) ∙ at.bytes
            ∙ ap (λ (l : List ℕ). l ++ at.more) (run_bytes_lem r h);
        first = λ e. start r h ∙ ap (run_start g rs) e;
        next = λ k.
            start (suc r) k ∙ start_more g rs r (omega (arith, runs_count vs))
            ∙ ap₂ ◌+◌ (sym (start r h)) (ap length (run_bytes_lem r h));
        last = ends r;
      }

  -- each run of the section that edition 3 writes
  pub run_stands : (r : ℕ) → r < run_count (length vs) → RunStands vs ((codec runs).section vs) r
  run_stands r h = subst (λ (l : List ℕ). RunStands vs l r) (sym (runs_section vs)) (stands r h)
