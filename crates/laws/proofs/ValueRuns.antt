-- The runs of a value section (document 02, [11]): their sizes, and where each stands with its summary. Assumes nothing.
use Rattle.format.specs.Kit.{◌≡◌, refl, sym, ap, ◌∙◌, true, List, [], ◌∷◌, ◌++◌, append_assoc, some, ℕ, zero, suc, ◌+◌, ◌*◌, ◌/◌, ◌^◌, ◌<◌, ◌≤◌, ◌∣◌}
use Rattle.format.specs.Kit.{zero-le, zero-add, add-zero, add_assoc, mul-suc, mul-le-mul_left, mod-eq_of_lt, lt_of_le_of_lt, div-le_self, arith, lit<}
use Rattle.format.specs.Kit.{length, get_or, take, drop, length-append, length-take, length-drop, drop-drop, drop_at, drop-append_seam, drop-append-le}
use Rattle.format.specs.Kit.{get_or-drop, ◌&&◌, ◌||◌, leb, eqb, le-leb, ℤ, pos}
use Rattle.format.specs.Limits.{max_width}
use Rattle.format.specs.Bytes.{bytes_of, digits, from_low, low_at, twos, untwos}
use Rattle.format.specs.Bits.{packed, packed_bytes, fetched}
use Rattle.format.specs.Values.{smallest, greatest, over, spread, width_with, stored_with}
use Rattle.format.specs.Pairs.{Each, Fits}
use Rattle.format.specs.ValueRuns.{run_length, runs_in, run_bytes, Summary, summary_of, summaries, summary_bytes, summary_at, run_section, in_run}
use Rattle.laws.proofs.Tests.{or_right}
use Rattle.laws.proofs.Digits.{from_digits_lem}
use Rattle.laws.proofs.Bits.{length_packed, fetched_packed, fetched_front, within, below_at}
use Rattle.laws.proofs.Pieces.{split_bytes, length_bytes_of, bytes_of_at}
use Rattle.laws.proofs.Values.{each_map, each_at, smallest_has, dvd_between, length_stored_with, stored_below, bit_length_le}
use Rattle.laws.proofs.Fits.{twos_lt, untwos_twos, smallest_fits, greatest_fits}
use Rattle.laws.proofs.Bounds.{spread_lt}
use Rattle.laws.proofs.Scaled.{signed_some, back_at}

-- ---- parts of a list

pub each_take : (P : ℤ → Type 0) (n : ℕ) (vs : List ℤ) → Each P vs → Each P (take n vs)
each_take P zero vs t = tt
each_take P (suc n) [] t = tt
each_take P (suc n) (v ∷ vs) t = (t.0, each_take P n vs t.1)

pub each_drop : (P : ℤ → Type 0) (n : ℕ) (vs : List ℤ) → Each P vs → Each P (drop n vs)
each_drop P zero vs t = t
each_drop P (suc n) [] t = tt
each_drop P (suc n) (v ∷ vs) t = each_drop P n vs t.1

-- ---- a run

-- what divides its differences to any value divides those to its smallest
pub run_divides : (g : ℕ) (m : ℤ) (r : List ℤ) → Each (λ v. g ∣ over m v) r → Each (λ v. g ∣ over (smallest r) v) r
run_divides g m [] t = tt
run_divides g m (u ∷ us) t =
    let k : g ∣ over m (smallest (u ∷ us)) = smallest_has (λ v. g ∣ over m v) u us t in
    each_map (λ v h. dvd_between g m (smallest (u ∷ us)) v k h) (u ∷ us) t

pub run_narrow : (g : ℕ) (r : List ℤ) → Each Fits r → width_with g r ≤ max_width
unfolding width_with
run_narrow g r t = bit_length_le (spread r / g) 64 (lt_of_le_of_lt (div-le_self (spread r) g) (spread_lt r t))

pub length_run : (g : ℕ) (r : List ℤ) → length (run_bytes g r) ≡ packed_bytes (length r) (width_with g r)
unfolding run_bytes
length_run g r =
    length_packed (width_with g r) (stored_with g r) ∙ ap (λ (n : ℕ). packed_bytes n (width_with g r)) (length_stored_with g r)

pub run_le : (g : ℕ) (r : List ℤ) → Each Fits r → length (run_bytes g r) ≤ 8 * length r
run_le g r t = omega (arith, mul-le-mul_left (length r) (run_narrow g r t), length_run g r)

-- ---- the runs of a list

pub length_runs : (k : ℕ) (vs : List ℤ) → length (runs_in k vs) ≡ k
unfolding runs_in
length_runs zero vs = refl
length_runs (suc k) vs = ap suc (length_runs k (drop run_length vs))

pub run_is : (k r : ℕ) (vs : List ℤ) → r < k → get_or (runs_in k vs) r [] ≡ take run_length (drop (run_length * r) vs)
unfolding runs_in
run_is zero r vs h = absurd (omega arith)
run_is (suc k) zero vs h = refl
run_is (suc k) (suc r) vs h =
    let e : run_length + run_length * r ≡ run_length * suc r = omega (arith, mul-suc run_length r) in
    run_is k r (drop run_length vs) (omega arith)
    ∙ ap (take run_length) (drop-drop (run_length * r) run_length vs ∙ ap (λ (n : ℕ). drop n vs) e)

-- their bytes: 8 a value at most
pub runs_le : (g k : ℕ) (vs : List ℤ) → Each Fits vs → length (bytes_of (run_bytes g) (runs_in k vs)) ≤ 8 * length vs
unfolding runs_in bytes_of
runs_le g zero vs t = zero-le
runs_le g (suc k) vs t =
    let r : List ℤ = take run_length vs in
    let more : List ℤ = drop run_length vs in
    omega (
      arith,
      length-append (run_bytes g r) (bytes_of (run_bytes g) (runs_in k more)),
      run_le g r (each_take Fits run_length vs t),
      runs_le g k more (each_drop Fits run_length vs t),
      length-take run_length vs,
      length-drop run_length vs,
    )

-- ---- a summary

pub length_summary : (x : Summary) → length (summary_bytes x) ≡ 25
unfolding summary_bytes digits
length_summary x = refl

-- it is read where it stands
pub summary_read : (s : List ℕ) (r : ℕ) (x : Summary) (more : List ℕ) → drop (25 * r) s ≡ summary_bytes x ++ more
    → Fits x.smallest → Fits x.greatest → x.start < 2 ^ 64 → summary_at s r ≡ x
unfolding summary_at summary_bytes digits low_at
summary_read s r x more here low_fits high_fits small =
    let e : ℕ = 25 * r in
    let a : from_low (take 8 (drop e s)) ≡ twos x.smallest =
    ap (λ (l : List ℕ). from_low (take 8 l)) here ∙ from_digits_lem 256 8 (twos x.smallest) (lit< tt) ∙ mod-eq_of_lt (twos_lt x.smallest low_fits) in
    let b : from_low (take 8 (drop (e + 8) s)) ≡ twos x.greatest =
    ap (λ (l : List ℕ). from_low (take 8 l)) (sym (drop-drop 8 e s)) ∙ ap (λ (l : List ℕ). from_low (take 8 (drop 8 l))) here
    ∙ from_digits_lem 256 8 (twos x.greatest) (lit< tt) ∙ mod-eq_of_lt (twos_lt x.greatest high_fits) in
    let c : from_low (take 8 (drop (e + 16) s)) ≡ x.start =
    ap (λ (l : List ℕ). from_low (take 8 l)) (sym (drop-drop 16 e s)) ∙ ap (λ (l : List ℕ). from_low (take 8 (drop 16 l))) here
    ∙ from_digits_lem 256 8 x.start (lit< tt) ∙ mod-eq_of_lt small in
    let d : get_or s (e + 24) 0 ≡ x.width = sym (get_or-drop e s 24 0) ∙ ap (λ (l : List ℕ). get_or l 24 0) here in
    let p : untwos (from_low (take 8 (drop e s))) ≡ x.smallest = ap untwos a ∙ untwos_twos x.smallest low_fits in
    let q : untwos (from_low (take 8 (drop (e + 8) s))) ≡ x.greatest = ap untwos b ∙ untwos_twos x.greatest high_fits in
    λ i. record { smallest = p i; greatest = q i; start = c i; width = d i }

-- ---- where a run stands

pub length_summaries : (g at : ℕ) (rs : List (List ℤ)) → length (summaries g at rs) ≡ length rs
unfolding summaries
length_summaries g at [] = refl
length_summaries g at (r ∷ rs) = ap suc (length_summaries g (at + length (run_bytes g r)) rs)

pub length_directory : (g at : ℕ) (rs : List (List ℤ)) → length (bytes_of summary_bytes (summaries g at rs)) ≡ 25 * length rs
length_directory g at rs =
    length_bytes_of 25 summary_bytes length_summary (summaries g at rs) ∙ ap (λ (n : ℕ). 25 * n) (length_summaries g at rs)

-- the bytes of the runs before run r
abbrev pub run_start : ℕ → List (List ℤ) → ℕ → ℕ
run_start g rs r = length (bytes_of (run_bytes g) (take r rs))

-- one run more
pub start_more : (g : ℕ) (rs : List (List ℤ)) (r : ℕ) → r < length rs
    → run_start g rs (suc r) ≡ run_start g rs r + length (run_bytes g (get_or rs r []))
unfolding bytes_of
start_more g [] r h = absurd (omega arith)
start_more g (x ∷ xs) zero h = omega (arith, length-append (run_bytes g x) [])
start_more g (x ∷ xs) (suc r) h =
    omega (
      arith,
      start_more g xs r (omega arith),
      length-append (run_bytes g x) (bytes_of (run_bytes g) (take (suc r) xs)),
      length-append (run_bytes g x) (bytes_of (run_bytes g) (take r xs)),
    )

pub start_le : (g : ℕ) (rs : List (List ℤ)) (r : ℕ) → run_start g rs r ≤ length (bytes_of (run_bytes g) rs)
start_le g rs r =
    omega (arith, ap length (split_bytes (run_bytes g) r rs), length-append (bytes_of (run_bytes g) (take r rs)) (bytes_of (run_bytes g) (drop r rs)))

pub summary_is_lem : (g at : ℕ) (rs : List (List ℤ)) (r : ℕ) (d : Summary) → r < length rs
    → get_or (summaries g at rs) r d ≡ summary_of g (at + run_start g rs r) (get_or rs r [])
unfolding summaries bytes_of
summary_is_lem g at [] r d h = absurd (omega arith)
summary_is_lem g at (x ∷ xs) zero d h = rw (add-zero at)
summary_is_lem g at (x ∷ xs) (suc r) d h =
    summary_is_lem g (at + length (run_bytes g x)) xs r d (omega arith)
    ∙ ap (λ (n : ℕ). summary_of g n (get_or xs r []))
    (add_assoc at (length (run_bytes g x)) (run_start g xs r)
    ∙ ap (λ (n : ℕ). at + n) (sym (length-append (run_bytes g x) (bytes_of (run_bytes g) (take r xs)))))

run_there : (g : ℕ) (rs : List (List ℤ)) (r : ℕ) → r < length rs
    → drop (run_start g rs r) (bytes_of (run_bytes g) rs) ≡ run_bytes g (get_or rs r []) ++ bytes_of (run_bytes g) (drop (suc r) rs)
unfolding bytes_of
run_there g [] r h = absurd (omega arith)
run_there g (x ∷ xs) zero h = refl
run_there g (x ∷ xs) (suc r) h =
    rw (length-append (run_bytes g x) (bytes_of (run_bytes g) (take r xs)))
    (sym (drop-drop (run_start g xs r) (length (run_bytes g x)) (run_bytes g x ++ bytes_of (run_bytes g) xs))
    ∙ ap (drop (run_start g xs r)) (drop-append_seam (run_bytes g x) (bytes_of (run_bytes g) xs))
    ∙ run_there g xs r (omega arith))

-- run r with its summary, in a section s whose bytes after the directory are `rest`
pub record RunAt (g : ℕ) (s rest : List ℕ) (rs : List (List ℤ)) (r : ℕ) : Type 0 where
  pub summary : summary_at s r ≡ summary_of g (run_start g rs r) (get_or rs r [])
  pub more : List ℕ
  pub bytes : drop (run_start g rs r) rest ≡ run_bytes g (get_or rs r []) ++ more

-- runs of signed 64-bit values, few enough
pub record RunsFit (g : ℕ) (rs : List (List ℤ)) : Type 0 where
  pub fit : (r : ℕ) → r < length rs → Each Fits (get_or rs r [])
  pub small : length (bytes_of (run_bytes g) rs) < 2 ^ 64

pub rest_is : (g : ℕ) (rs : List (List ℤ)) → drop (25 * length rs) (run_section g rs) ≡ bytes_of (run_bytes g) rs
unfolding run_section
rest_is g rs = drop_at (bytes_of summary_bytes (summaries g 0 rs)) (bytes_of (run_bytes g) rs) (25 * length rs) (length_directory g 0 rs)

pub run_at : (g : ℕ) (rs : List (List ℤ)) → RunsFit g rs → (r : ℕ) → r < length rs → RunAt g (run_section g rs) (bytes_of (run_bytes g) rs) rs r
unfolding run_section summary_of
run_at g rs ok r h =
    let xs : List Summary = summaries g 0 rs in
    let rest : List ℕ = bytes_of (run_bytes g) rs in
    let v : List ℤ = get_or rs r [] in
    let x : Summary = summary_of g (run_start g rs r) v in
    let is : get_or xs r x ≡ x = summary_is_lem g 0 rs r x h ∙ ap (λ (n : ℕ). summary_of g n v) (zero-add (run_start g rs r)) in
    let here : drop (25 * r) (bytes_of summary_bytes xs ++ rest) ≡ summary_bytes x ++ (bytes_of summary_bytes (drop (suc r) xs) ++ rest) =
    drop-append-le (25 * r) (bytes_of summary_bytes xs) rest (omega (arith, length_directory g 0 rs))
    ∙ ap (λ (l : List ℕ). l ++ rest)
    (bytes_of_at 25 summary_bytes x length_summary xs r (omega (arith, length_summaries g 0 rs))
    ∙ ap (λ (y : Summary). summary_bytes y ++ bytes_of summary_bytes (drop (suc r) xs)) is)
    ∙ append_assoc (summary_bytes x) (bytes_of summary_bytes (drop (suc r) xs)) rest in
    record {
      summary =
          summary_read (bytes_of summary_bytes xs ++ rest) r x _ here (smallest_fits v (ok.fit r h)) (greatest_fits v (ok.fit r h))
          (omega (arith, start_le g rs r, ok.small));
      more = bytes_of (run_bytes g) (drop (suc r) rs);
      bytes = run_there g rs r h;
    }

-- each value of a run comes back
module _ (g : ℕ) (s rest : List ℕ) (rs : List (List ℤ)) (r : ℕ) (at : RunAt g s rest rs r) (p : zero < g) where
  abbrev v : List ℤ
  v = get_or rs r []

  abbrev w : ℕ
  w = width_with g v

  number_back : (more : List ℕ) (k : ℕ) → k < length v → fetched (run_bytes g v ++ more) w k ≡ get_or (stored_with g v) k 0
  unfolding run_bytes
  number_back more k h =
      let j : k < length (stored_with g v) = omega (arith, length_stored_with g v) in
      fetched_front (packed w (stored_with g v)) more w k
      (omega (arith, within k w (length (stored_with g v)) j, length_packed w (stored_with g v)))
      ∙ fetched_packed w (stored_with g v) k j (below_at (2 ^ w) (stored_with g v) k (stored_below g v p) j)

  reaches : Each Fits v → (more : List ℕ) (k : ℕ) → k < length v → (leb w max_width && (eqb w 0 || leb (k * w + w) (8 * length (run_bytes g v ++ more)))) ≡ true
  reaches fit more k h =
      rw (le-leb w max_width (run_narrow g v fit))
      (or_right (eqb w 0) (leb (k * w + w) (8 * length (run_bytes g v ++ more)))
      (le-leb (k * w + w) (8 * length (run_bytes g v ++ more)) (omega (arith, within k w (length v) h, length_run g v, length-append (run_bytes g v) more))))

  pub in_run_lem : Each Fits v → Each (λ u. g ∣ over (smallest v) u) v → (k : ℕ) → k < length v
      → in_run g rest (summary_at s r) k ≡ some (get_or v k (pos 0))
  unfolding in_run summary_of
  in_run_lem fit divides k h =
      rw (at.summary, at.bytes, reaches fit at.more k h, number_back at.more k h, back_at g v k divides h)
      (signed_some (get_or v k (pos 0)) (each_at Fits v k (pos 0) fit h))
