-- A run whose numbers are all within the section is a packed section of its own, as edition 1's is; and a buffer that is filled run by run. Assumes
-- nothing.
use Rattle.format.specs.Kit.{◌≡◌, sym, ap, ◌∙◌, true, cond, List, ◌++◌, some, ℕ, suc, ◌+◌, ◌-◌, ◌*◌, ◌≤◌, ◌<◌, suc-mul, mul-le-mul_right, arith}
use Rattle.format.specs.Kit.{eqb, ℤ, length, take, drop, length-take-le, length-drop, drop-drop, take-append-drop, le-leb, eq-eqb, ne_eqb, put_mid}
use Rattle.format.specs.Limits.{max_width}
use Rattle.format.specs.HeaderNumbers.{zigzag, unzigzag}
use Rattle.format.specs.Bits.{packed_bytes, fetched}
use Rattle.format.specs.Values.{value_at}
use Rattle.format.specs.Codec.{Fields, signed64, scaled}
use Rattle.format.specs.ValueRuns.{run_length, directory_length, Summary, summary_at, in_run}
use Rattle.format.specs.Editions.{runs, codec, high_first}
use Rattle.format.specs.Check.{all_values}
use Rattle.format.specs.Stores.{Fill}
use Rattle.laws.proofs.Cases.{true_or, equal_or}
use Rattle.laws.proofs.Tests.{true_both}
use Rattle.laws.proofs.Bits.{within, fetched_front}
use Rattle.laws.proofs.Fits.{unzigzag_zigzag}
use Rattle.laws.proofs.Scaled.{scaled_rules, scaled_value}
use Rattle.laws.proofs.RoundTrip.{all_same, all_at, all_part}
use Rattle.laws.proofs.Stores.{part_more, part_put}
use Rattle.run_values.specs.Summaries.{reaches_in}
use Rattle.run_values.proofs.Reached.{narrow, reach, at_reached, not_reached, reached}
use Rattle.laws.proofs.Editions.{value_in}

-- where all values are there, the last number is within the section
pub all_stands : (s : List ℕ) (from g : ℕ) (x : Summary) (n : ℕ) (vs : List ℤ) → all_values n (in_run g (drop from s) x) ≡ some vs → 0 < n
    → reaches_in (length s - from) x.start x.width (n - 1) ≡ true
all_stands s from g x n vs all one =
    true_or (reaches_in (length s - from) x.start x.width (n - 1))
    (λ t. t)
    (λ t. absurd (let y = not_reached s from g x (n - 1) t ∙ all_at n _ vs all (n - 1) (omega arith) in let z : ◌≡◌ {A = ℕ} 0 1 = cc in omega arith))

module _ (s : List ℕ) (from : ℕ) (x : Summary) (n : ℕ) (one : 0 < n) (stands : reaches_in (length s - from) x.start x.width (n - 1) ≡ true) where
  -- and so is each before it
  reaches : (k : ℕ) → k < n → reaches_in (length s - from) x.start x.width k ≡ true
  reaches k h =
      let w : ℕ = x.width in
      let room : ℕ = 8 * (length s - from - x.start) in
      let l : k ≤ n - 1 = omega arith in
      true_both _ _ (le-leb w max_width (narrow _ _ _ _ stands))
      (equal_or w 0
      (λ z. rw (eq-eqb w 0 z))
      (λ z. rw (ne_eqb w 0 z) (le-leb (k * w + w) room (omega (arith, reach _ _ _ _ stands z, mul-le-mul_right w l)))))

  pub run_narrow : x.width ≤ max_width
  run_narrow = narrow _ _ _ _ stands

  pub run_starts : (x.width ≡ 0 → ⊥) → x.start ≤ length s - from
  run_starts z = omega (arith, reach _ _ _ _ stands z)

  module _ (inside : from ≤ length s) (at : ℕ) (is : at ≡ cond (eqb x.width 0) from (from + x.start)) where
    -- the last one, and so all
    last : (n - 1) * x.width + x.width ≡ n * x.width
    last = let e : suc (n - 1) ≡ n = omega arith in sym (suc-mul (n - 1) x.width) ∙ ap (λ (k : ℕ). k * x.width) e

    pub run_inside : (at ≤ length s) × (packed_bytes n x.width ≤ length s - at)
    run_inside =
        let e = at_reached (length s) from x.start x.width (n - 1) at inside is stands in
        (e.0, omega (arith, e.1, last))

    module _ (g b : ℕ) (bytes : b ≡ packed_bytes n x.width) (z : ℕ) (low : z ≡ zigzag x.smallest) where
      abbrev part : List ℕ
      part = take b (drop at s)

      abbrev own : Fields
      own = record { width = x.width; smallest = z; divisor = g }

      long : length part ≡ packed_bytes n x.width
      long = length-take-le b (drop at s) (omega (arith, run_inside.1, length-drop at s)) ∙ bytes

      pub run_rules : 0 < g → (scaled high_first).fields_ok n own (length part) ≡ true
      unfolding high_first
      run_rules p =
          scaled_rules high_first n own (length part)
          ∙ true_both _ _ (true_both _ _ (le-leb x.width max_width run_narrow) (le-leb 1 g p)) (eq-eqb (length part) (packed_bytes n x.width) long)

      -- number k is the same in its part
      same_number : (k : ℕ) → k < n → fetched part x.width k ≡ fetched (drop at s) x.width k
      same_number k h =
          sym (fetched_front part (drop b (drop at s)) x.width k (omega (arith, within k x.width n h, long)))
          ∙ ap (λ (l : List ℕ). fetched l x.width k) (take-append-drop b (drop at s))

      pub same_value : (k : ℕ) → k < n → (scaled high_first).value n own part k ≡ in_run g (drop from s) x k
      unfolding high_first
      same_value k h =
          scaled_value high_first n own part k
          ∙ ap (λ (m : ℤ). signed64 (value_at m g (fetched part x.width k))) (ap unzigzag low ∙ unzigzag_zigzag x.smallest)
          ∙ ap (λ (y : ℕ). signed64 (value_at x.smallest g y)) (same_number k h)
          ∙ reached s from g x k at is (reaches k h)

-- ---- the runs in turn

-- the values of run r, or of its first m, are those of their ordinals
pub its_values : (n : ℕ) (f : Fields) (s : List ℕ) (vs : List ℤ) → all_values n ((codec runs).value n f s) ≡ some vs → (r m : ℕ) → m ≤ run_length
    → run_length * r + m ≤ n → all_values m (in_run f.divisor (drop (directory_length n) s) (summary_at s r)) ≡ some (take m (drop (run_length * r) vs))
its_values n f s vs all r m h k = all_same m _ _ (λ j b. value_in n f s r j (omega arith)) ∙ all_part n _ vs all (run_length * r) m k

-- a buffer with one run more, which was lent the run's part of it
pub run_more : {d vs l : List ℤ} {i : ℕ} → Fill d 0 vs l i (drop i vs) → (end : ℕ) → i ≤ end → end ≤ length vs → end ≤ length l
    → (part : List ℤ) → part ≡ take (end - i) (drop i vs) → Fill d 0 vs (put_mid i (end - i) l part) end (drop end vs)
run_more {d} {vs} {l} {i} f end low high room part e =
    let xs : List ℤ = take (end - i) (drop i vs) in
    let long : length xs ≡ end - i = length-take-le (end - i) (drop i vs) (omega (arith, length-drop i vs)) in
    let next : i + (end - i) ≡ end = omega arith in
    part_more d 0 vs l i (drop i vs) f (put_mid i (end - i) l part) end xs (drop end vs)
    (sym (take-append-drop (end - i) (drop i vs)) ∙ ap (λ (more : List ℤ). xs ++ more) (drop-drop (end - i) i vs ∙ ap (λ (k : ℕ). drop k vs) next))
    (ap (put_mid i (end - i) l) e ∙ part_put l xs i end (omega (arith, long)) room)
    (omega (arith, long))
