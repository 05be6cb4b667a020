-- A section that passes the tests is that of some values. Assumes nothing.
use Rattle.format.specs.Kit.{◌≡◌, refl, sym, ap, ap₂, ◌∙◌, subst, true, List, [], ◌∷◌, ◌++◌, map, ℕ, zero, suc, ◌+◌, ◌-◌, ◌*◌, ◌<◌, ◌≤◌, min, mul-suc, arith}
use Rattle.format.specs.Kit.{eqb, length, get_or, drop, length-take-le, length-drop, drop-drop, drop-length, take-append-drop, eqb-true, ℤ}
use Rattle.format.specs.Bytes.{bytes_of}
use Rattle.format.specs.Bits.{packed_bytes, unpacked}
use Rattle.format.specs.Values.{over, gcd, gcd_from, stored_with, value_at}
use Rattle.format.specs.Pairs.{Below, Each, Fits}
use Rattle.format.specs.ValueRuns.{run_length, run_count, Summary, summary_at, summary_of, summaries, run_bytes}
use Rattle.laws.proofs.Tests.{both_true}
use Rattle.laws.proofs.Digits.{below_take, below_drop}
use Rattle.laws.proofs.Bits.{byte_at}
use Rattle.run_check.specs.RunsOk.{part_at, numbers_at, run_ok, divisor_ok, runs_ok}
use Rattle.run_check.proofs.Divisor.{EachRun, Divided, apart_in, common_in}
use Rattle.run_check.proofs.Directory.{summaries_at, smallest_fits_at, greatest_fits_at}
use Rattle.run_check.proofs.OneRun.{RunIs, run_count_lem, run_divides, run_stored, run_sound}
use Rattle.run_check.proofs.Shape.{Shaped}
use Rattle.run_check.proofs.Ran.{Passed, passed}

module _ (g : ℕ) (p : 0 < g) (s rest : List ℕ) (n : ℕ) (us : Below 256 s) (ur : Below 256 rest) (dir : 25 * run_count n ≤ length s) where
  abbrev pub base : ℤ
  base = (summary_at s 0).smallest

  -- k runs, r and on, from a byte on
  pub record Good (k r at a d : ℕ) : Type 0 where
    pub rs : List (List ℤ)
    pub many : length rs ≡ k
    pub shape : Shaped (n - run_length * r) rs
    pub fit : EachRun (Each Fits) rs
    pub divided : EachRun (Divided g) rs
    pub sums : summaries g at rs ≡ summaries_at s k r
    pub bytes : bytes_of (run_bytes g) rs ≡ drop at rest
    pub final : divisor_ok g (apart_in base a rs) (common_in g d rs) ≡ true

  module _ (k r at a d : ℕ) (e : r + suc k ≡ run_count n) (t : runs_ok g s rest n (suc k) r at a d ≡ true) where
    abbrev x : Summary
    x = summary_at s r

    abbrev m : ℕ
    m = min run_length (n - run_length * r)

    abbrev b : ℕ
    b = packed_bytes m x.width

    abbrev part : List ℕ
    part = part_at rest at m x.width

    both : (run_ok g rest at m x ≡ true)
        × (runs_ok g s rest n k (suc r) (at + b) (gcd a (over base x.smallest)) (gcd_from d (numbers_at rest at m x.width)) ≡ true)
    unfolding runs_ok
    both = both_true _ _ t

    ok : Passed g rest at m x
    ok = passed g rest at m x both.0

    part_long : length part ≡ b
    part_long = length-take-le b (drop at rest) (omega (arith, ok.within, length-drop at rest))

    part_byte : (i : ℕ) → get_or part i 0 < 256
    part_byte = byte_at part (below_take 256 b (drop at rest) (below_drop 256 at rest ur))

    some : 0 < m
    some = omega arith

    run : List ℤ
    run = map (value_at x.smallest g) (unpacked x.width m part)

    low_fits : Fits x.smallest
    low_fits = smallest_fits_at s us r (omega arith)

    high_fits : Fits x.greatest
    high_fits = greatest_fits_at s us r (omega arith)

    is : RunIs g x part run
    unfolding run
    is = run_sound g p x part m low_fits high_fits ok.narrow some part_long part_byte (rw part_long ok.spare, ok.range)

    run_long : length run ≡ m
    unfolding run
    run_long = run_count_lem g p x part m low_fits high_fits ok.narrow some part_long part_byte

    run_divided : Divided g run
    unfolding run
    run_divided =
        record {
          some = omega (arith, run_long);
          divides = run_divides g p x part m low_fits high_fits ok.narrow some part_long part_byte is.smallest_is;
        }

    numbers_are : stored_with g run ≡ numbers_at rest at m x.width
    unfolding run
    numbers_are = run_stored g p x part m low_fits high_fits ok.narrow some part_long part_byte is.smallest_is

    bytes_long : length (run_bytes g run) ≡ b
    bytes_long = ap length is.bytes_are ∙ part_long

    summary_is_lem : summary_of g at run ≡ x
    unfolding summary_of
    summary_is_lem = λ i. record { smallest = is.smallest_is i; greatest = is.greatest_is i; start = sym ok.starts i; width = is.width_is i }

    one_more : Good k (suc r) (at + b) (gcd a (over base x.smallest)) (gcd_from d (numbers_at rest at m x.width)) → Good (suc k) r at a d
    unfolding summaries summaries_at bytes_of common_in gcd_from
    one_more h =
        let past : n - run_length * suc r ≡ n - run_length * r - run_length = omega (arith, mul-suc run_length r) in
        record {
          rs = run ∷ h.rs;
          many = ap suc h.many;
          shape = (run_long, subst (λ (l : ℕ). Shaped l h.rs) past h.shape);
          fit = (is.fit, h.fit);
          divided = (run_divided, h.divided);
          sums =
              ap₂ {C = List Summary} (λ (y : Summary) (ys : List Summary). y ∷ ys) summary_is_lem
              (ap (λ (l : ℕ). summaries g (at + l) h.rs) bytes_long ∙ h.sums);
          bytes =
              ap₂ (λ (y z : List ℕ). y ++ z) is.bytes_are (h.bytes ∙ sym (drop-drop b at rest)) ∙ take-append-drop b (drop at rest);
          final = rw (is.smallest_is, numbers_are) h.final;
        }

  pub runs_sound : (k r at a d : ℕ) → r + k ≡ run_count n → runs_ok g s rest n k r at a d ≡ true → Good k r at a d
  unfolding runs_ok summaries summaries_at bytes_of common_in gcd_from
  runs_sound zero r at a d e t =
      let b = both_true (eqb at (length rest)) (divisor_ok g a d) t in
      let end : at ≡ length rest = eqb-true at (length rest) b.0 in
      record {
        rs = [];
        many = refl;
        shape = omega arith;
        fit = tt;
        divided = tt;
        sums = refl;
        bytes = sym (ap (λ (l : ℕ). drop l rest) end ∙ drop-length rest);
        final = b.1;
      }
  runs_sound (suc k) r at a d e t = one_more k r at a d e t (runs_sound k (suc r) _ _ _ (omega arith) (both k r at a d e t).1)
