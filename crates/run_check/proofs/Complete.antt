-- The section of some values passes the tests. Assumes nothing.
use Rattle.format.specs.Kit.{◌≡◌, refl, sym, ap, ap₂, ◌∙◌, subst, true, List, [], ◌∷◌, ◌++◌, map, ℕ, zero, suc, ◌+◌, ◌-◌, ◌*◌, ◌<◌, ◌≤◌, ◌∣◌, min, arith}
use Rattle.format.specs.Kit.{length, get_or, take, drop, take_at, take_all, length-append, length-drop, drop-cons, drop_of_length-le, eq-eqb, le-leb, ℤ}
use Rattle.format.specs.Limits.{max_width}
use Rattle.format.specs.Bytes.{bytes_of}
use Rattle.format.specs.Bits.{packed_bytes, packed, unpacked}
use Rattle.format.specs.Values.{smallest, over, gcd_from, width_with, stored_with, value_at}
use Rattle.format.specs.Pairs.{Below, Each, Fits}
use Rattle.format.specs.ValueRuns.{run_length, run_count, Summary, summary_at, summary_of, run_bytes}
use Rattle.laws.proofs.Tests.{true_both}
use Rattle.laws.proofs.Digits.{below_take, below_drop}
use Rattle.laws.proofs.Bits.{byte_at, unpacked_packed}
use Rattle.laws.proofs.Values.{values_back, length_stored_with, stored_below}
use Rattle.laws.proofs.Pieces.{split_bytes}
use Rattle.laws.proofs.ValueRuns.{run_start, RunAt, length_run, run_narrow, start_more}
use Rattle.laws.proofs.Fits.{smallest_fits, greatest_fits}
use Rattle.run_check.specs.RunsOk.{part_at, numbers_at, run_ok, divisor_ok, runs_ok}
use Rattle.run_check.proofs.Divisor.{apart_in, common_in}
use Rattle.run_check.proofs.OneRun.{RunIs, run_complete}

module _ (g : ℕ) (p : 0 < g) (s rest : List ℕ) (n : ℕ) (ur : Below 256 rest) (rs : List (List ℤ)) (many : length rs ≡ run_count n)
    (there : (r : ℕ) → r < length rs → RunAt g s rest rs r) (end : length (bytes_of (run_bytes g) rs) ≡ length rest)
    (long : (r : ℕ) → r < length rs → length (get_or rs r []) ≡ min run_length (n - run_length * r))
    (fit : (r : ℕ) → r < length rs → Each Fits (get_or rs r []))
    (divides : (r : ℕ) → r < length rs → Each (λ v. g ∣ over (smallest (get_or rs r [])) v) (get_or rs r [])) where
  abbrev pub base : ℤ
  base = (summary_at s 0).smallest

  module _ (r at : ℕ) (h : r < length rs) (e : at ≡ run_start g rs r) where
    abbrev run : List ℤ
    run = get_or rs r []

    abbrev x : Summary
    x = summary_at s r

    abbrev m : ℕ
    m = min run_length (n - run_length * r)

    is : x ≡ summary_of g at run
    is = (there r h).summary ∙ ap (λ (k : ℕ). summary_of g k run) (sym e)

    width_is : x.width ≡ width_with g run
    unfolding summary_of
    width_is = ap (λ (y : Summary). y.width) is

    low_is : x.smallest ≡ smallest run
    unfolding summary_of
    low_is = ap (λ (y : Summary). y.smallest) is

    bytes_long : packed_bytes m x.width ≡ length (run_bytes g run)
    bytes_long = ap₂ (λ (k w : ℕ). packed_bytes k w) (sym (long r h)) width_is ∙ sym (length_run g run)

    here : drop at rest ≡ run_bytes g run ++ (there r h).more
    here = ap (λ (k : ℕ). drop k rest) e ∙ (there r h).bytes

    part_is : part_at rest at m x.width ≡ run_bytes g run
    part_is = ap₂ (λ (k : ℕ) (l : List ℕ). take k l) bytes_long here ∙ take_at (run_bytes g run) (there r h).more (length (run_bytes g run)) refl

    within : at + packed_bytes m x.width ≤ length rest
    within =
        omega (arith, bytes_long, ap length here, length-drop at rest, length-append (run_bytes g run) (there r h).more, some_left)
      where
        some_left : at ≤ length rest
        some_left =
            omega (
              arith,
              e,
              ap length (split_bytes (run_bytes g) r rs),
              end,
              length-append (bytes_of (run_bytes g) (take r rs)) (bytes_of (run_bytes g) (drop r rs)),
            )

    pub numbers_are : numbers_at rest at m x.width ≡ stored_with g run
    unfolding run_bytes
    numbers_are =
        ap₂ (λ (k : ℕ) (l : List ℕ). unpacked x.width k l) (sym (long r h) ∙ sym (length_stored_with g run)) part_is
        ∙ ap (λ (w : ℕ). unpacked w (length (stored_with g run)) (packed (width_with g run) (stored_with g run))) width_is
        ∙ unpacked_packed (width_with g run) (stored_with g run) (stored_below g run p)

    values_are : map (value_at x.smallest g) (numbers_at rest at m x.width) ≡ run
    values_are = ap₂ (λ (z : ℤ) (l : List ℕ). map (value_at z g) l) low_is numbers_are ∙ values_back g run (divides r h)

    run_is : RunIs g x (part_at rest at m x.width) run
    unfolding summary_of
    run_is =
        record {
          fit = fit r h;
          smallest_is = sym low_is;
          greatest_is = sym (ap (λ (y : Summary). y.greatest) is);
          width_is = sym width_is;
          bytes_are = sym part_is;
        }

    some : 0 < m
    some = omega (arith, many)

    pub passes : run_ok g rest at m x ≡ true
    unfolding run_ok summary_of
    passes =
        let part : List ℕ = part_at rest at m x.width in
        let plen : length part ≡ packed_bytes m x.width = ap length part_is ∙ sym bytes_long in
        let part-below : Below 256 part = below_take 256 (packed_bytes m x.width) (drop at rest) (below_drop 256 at rest ur) in
        let narrow : x.width ≤ max_width = subst (λ (w : ℕ). w ≤ max_width) (sym width_is) (run_narrow g run (fit r h)) in
        let t = run_complete g p x part m (subst Fits (sym low_is) (smallest_fits run (fit r h)))
        (subst Fits (sym (ap (λ (y : Summary). y.greatest) is)) (greatest_fits run (fit r h))) narrow some plen (byte_at part part-below)
        (subst (RunIs g x part) (sym values_are) run_is) in
        true_both _ _
        (true_both _ _
        (true_both _ _ (true_both _ _ (eq-eqb _ _ (ap (λ (y : Summary). y.start) is)) (le-leb _ _ narrow)) (le-leb _ _ within))
        (rw plen at t.0))
        t.1

  pub runs_complete : (k r at a d : ℕ) → r + k ≡ run_count n → at ≡ run_start g rs r
      → divisor_ok g (apart_in base a (drop r rs)) (common_in g d (drop r rs)) ≡ true → runs_ok g s rest n k r at a d ≡ true
  unfolding runs_ok common_in gcd_from
  runs_complete zero r at a d e f t =
      let none : drop r rs ≡ [] = drop_of_length-le rs {i = r} (omega (arith, many)) in
      let all : take r rs ≡ rs = take_all r rs (omega (arith, many)) in
      true_both _ _ (eq-eqb at (length rest) (f ∙ ap (λ (l : List (List ℤ)). length (bytes_of (run_bytes g) l)) all ∙ end)) (rw none at t)
  runs_complete (suc k) r at a d e f t =
      let h : r < length rs = omega (arith, many) in
      let split : drop r rs ≡ get_or rs r [] ∷ drop (suc r) rs = drop-cons rs r [] h in
      let u = rw split at t in
      true_both _ _ (passes r at h f)
      (runs_complete k (suc r) _ _ _ (omega arith)
      (ap₂ ◌+◌ f (bytes_long r at h f) ∙ sym (start_more g rs r h))
      (rw (low_is r at h f, numbers_are r at h f) u))
