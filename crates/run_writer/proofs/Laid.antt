-- Runs laid down one after the other: where each is among the values, what a summary and a run put, and the two regions that grow at once.
-- Assumes nothing.
use Rattle.format.specs.Kit.{◌≡◌, refl, sym, ap, ap₂, ◌∙◌, List, [], ◌∷◌, ◌++◌, append-nil, ℕ, suc, ◌+◌, ◌-◌, ◌*◌, ◌≤◌, ◌<◌, min, add-zero, add-one}
use Rattle.format.specs.Kit.{arith, length, get_or, take, drop, set, length-append, length-take, length-drop, take_all, drop-cons, drop_of_length-le, sets}
use Rattle.format.specs.Kit.{length-sets, put_mid, ℤ}
use Rattle.format.specs.Bytes.{bytes_of, low}
use Rattle.format.specs.ValueRuns.{run_length, run_count, runs_of, run_bytes, Summary, summary_of, summaries, summary_bytes, run_section}
use Rattle.laws.proofs.Cases.{below_or}
use Rattle.laws.proofs.Digits.{length_digits}
use Rattle.laws.proofs.Stores.{sets_then, sets_comm, sets_front, part_put}
use Rattle.laws.proofs.Pieces.{split_bytes, length_bytes_of}
use Rattle.laws.proofs.ValueRuns.{length_summary, length_summaries, length_directory, run_start, summary_is_lem, start_more}
use Rattle.laws.proofs.InRuns.{its_run}

-- ---- a run among the values

take_min : {A : Type 0} (k : ℕ) (l : List A) → take (min k (length l)) l ≡ take k l
take_min {A} k l =
    below_or (length l) k
    (λ h. let m : min k (length l) ≡ length l = omega arith in
    ap (λ (n : ℕ). take n l) m ∙ take_all (length l) l (omega arith) ∙ sym (take_all k l (omega arith)))
    (λ h. let m : min k (length l) ≡ k = omega arith in ap (λ (n : ℕ). take n l) m)

-- k values from run r's start on, as the code lends them
abbrev pub part : List ℤ → ℕ → ℕ → List ℤ
part vs r k = take (run_length * r + k - run_length * r) (drop (run_length * r) vs)

-- they are run r
pub record IsRun (vs : List ℤ) (r k : ℕ) : Type 0 where
  pub ends : run_length * r + k ≤ length vs
  pub run : part vs r k ≡ get_or (runs_of vs) r []
  pub long : length (part vs r k) ≡ run_length * r + k - run_length * r

pub part_is : (vs : List ℤ) (r k : ℕ) → r < run_count (length vs) → k ≡ min run_length (length vs - run_length * r) → IsRun vs r k
part_is vs r k h e =
    let i : ℕ = run_length * r in
    let n : i + k - i ≡ min run_length (length (drop i vs)) = omega (arith, e, length-drop i vs) in
    record {
      ends = omega (arith, h, e);
      run = ap (λ (m : ℕ). take m (drop i vs)) n ∙ take_min run_length (drop i vs) ∙ sym (its_run vs r h);
      long = omega (arith, h, e, length-take (i + k - i) (drop i vs), length-drop i vs);
    }

-- none is left
pub start_all : (g : ℕ) (rs : List (List ℤ)) (r : ℕ) → length rs ≤ r → run_start g rs r ≡ length (bytes_of (run_bytes g) rs)
start_all g rs r h = ap (λ (l : List (List ℤ)). length (bytes_of (run_bytes g) l)) (take_all r rs h)

-- ---- a summary

pub summary_put : (out l1 l2 l3 : List ℕ) (at a b c w : ℕ) → l1 ≡ sets out at (low 8 a) → l2 ≡ sets l1 (at + 8) (low 8 b) → l3 ≡ sets l2 (at + 16) (low 8 c)
    → set l3 (at + 24) w ≡ sets out at (low 8 a ++ (low 8 b ++ (low 8 c ++ (w ∷ []))))
summary_put out l1 l2 l3 at a b c w e1 e2 e3 =
    ap (λ (l : List ℕ). set l (at + 24) w) (e3 ∙ ap (λ (l : List ℕ). sets l (at + 16) (low 8 c)) (e2 ∙ ap (λ (l : List ℕ). sets l (at + 8) (low 8 b)) e1))
    ∙ sym
    (sets_then out at (at + 8) (low 8 a) _ (omega (arith, length_digits 256 8 a))
    ∙ sets_then (sets out at (low 8 a)) (at + 8) (at + 16) (low 8 b) _ (omega (arith, length_digits 256 8 b))
    ∙ sets_then (sets (sets out at (low 8 a)) (at + 8) (low 8 b)) (at + 16) (at + 24) (low 8 c) (w ∷ []) (omega (arith, length_digits 256 8 c)))

-- ---- a run's bytes, put into the part that is theirs

pub run_put : (mid part xs : List ℕ) (at end : ℕ) → end ≡ at + length xs → end ≤ length mid
    → part ≡ xs ++ drop (length xs) (take (end - at) (drop at mid)) → put_mid at (end - at) mid part ≡ sets mid at xs
run_put mid part xs at end e h ep =
    let none : drop (length xs) (take (end - at) (drop at mid)) ≡ [] =
    drop_of_length-le (take (end - at) (drop at mid)) {i = length xs} (omega (arith, length-take (end - at) (drop at mid))) in
    let mine : part ≡ xs = ep ∙ ap (λ (l : List ℕ). xs ++ l) none ∙ append-nil xs in
    ap (put_mid at (end - at) mid) mine ∙ part_put mid xs at end e h

length_of_section : (g : ℕ) (rs : List (List ℤ)) → length (run_section g rs) ≡ 25 * length rs + length (bytes_of (run_bytes g) rs)
unfolding run_section
length_of_section g rs =
    length-append (bytes_of summary_bytes (summaries g 0 rs)) (bytes_of (run_bytes g) rs)
    ∙ ap (λ (k : ℕ). k + length (bytes_of (run_bytes g) rs)) (length_directory g 0 rs)

-- ---- both regions: the directory from 0 on, and the runs from its end on

module _ (g : ℕ) (rs : List (List ℤ)) where
  abbrev sums : List Summary
  sums = summaries g 0 rs

  abbrev from : ℕ
  from = 25 * length rs

  -- of the output d, l is what stands when run r is next
  pub record Laid (d l : List ℕ) (r start : ℕ) : Type 0 where
    pub same : sets (sets l (25 * r) (bytes_of summary_bytes (drop r sums))) (from + start) (bytes_of (run_bytes g) (drop r rs))
        ≡ sets d 0 (run_section g rs)
    pub begun : start ≡ run_start g rs r
    pub kept : length l ≡ length d

  section_put : (d : List ℕ) → sets (sets d 0 (bytes_of summary_bytes sums)) from (bytes_of (run_bytes g) rs) ≡ sets d 0 (run_section g rs)
  unfolding run_section
  section_put d = sym (sets_then d 0 from (bytes_of summary_bytes sums) (bytes_of (run_bytes g) rs) (omega (arith, length_directory g 0 rs)))

  pub laid_none : (d : List ℕ) → Laid d d 0 0
  unfolding bytes_of
  laid_none d =
      record {
        same = ap (λ (k : ℕ). sets (sets d 0 (bytes_of summary_bytes sums)) k (bytes_of (run_bytes g) rs)) (add-zero from) ∙ section_put d;
        begun = refl;
        kept = refl;
      }

  module _ (d l : List ℕ) (r start : ℕ) (t : Laid d l r start) (h : r < length rs) where
    abbrev run : List ℤ
    run = get_or rs r []

    sum_next : drop r sums ≡ summary_of g start run ∷ drop (r + 1) sums
    sum_next =
        let k : r < length sums = omega (arith, length_summaries g 0 rs) in
        let x : Summary = summary_of g start run in
        drop-cons sums r x k
        ∙ ap₂ {C = List Summary} (λ (y : Summary) (m : ℕ). y ∷ drop m sums)
        (summary_is_lem g 0 rs r x h ∙ ap (λ (m : ℕ). summary_of g m run) (omega_start)) (sym (add-one r))
      where
        omega_start : 0 + run_start g rs r ≡ start
        omega_start = omega (arith, t.begun)

    run_next : drop r rs ≡ run ∷ drop (r + 1) rs
    run_next = drop-cons rs r [] h ∙ ap (λ (m : ℕ). run ∷ drop m rs) (sym (add-one r))

    pub laid_more : (m : List ℕ) (s b : ℕ) → m ≡ sets (sets l (25 * r) (summary_bytes (summary_of g start run))) (from + start) (run_bytes g run)
        → b ≡ length (run_bytes g run) → s ≡ start + b → Laid d m (r + 1) s
    unfolding bytes_of
    laid_more m s b em eb es =
        let a : List ℕ = summary_bytes (summary_of g start run) in
        let x : List ℕ = run_bytes g run in
        let heads : List ℕ = bytes_of summary_bytes (drop (r + 1) sums) in
        let xs : List ℕ = bytes_of (run_bytes g) (drop (r + 1) rs) in
        let p : 25 * r + length a ≡ 25 * (r + 1) = omega (arith, length_summary (summary_of g start run)) in
        let q : from + start + length x ≡ from + s = omega arith in
        let few : 25 * (r + 1) + length heads ≤ from + start = omega (arith, after_directory) in
        record {
          same =
              ap (λ (y : List ℕ). sets (sets y (25 * (r + 1)) heads) (from + s) xs) em
              ∙ ap (λ (y : List ℕ). sets y (from + s) xs) (sym (sets_comm (sets l (25 * r) a) (25 * (r + 1)) heads (from + start) x few))
              ∙ sym (sets_then (sets (sets l (25 * r) a) (25 * (r + 1)) heads) (from + start) (from + s) x xs q)
              ∙ ap (λ (y : List ℕ). sets y (from + start) (x ++ xs)) (sym (sets_then l (25 * r) (25 * (r + 1)) a heads p))
              ∙ sym (ap₂ (λ (u : List Summary) (v : List (List ℤ)). sets (sets l (25 * r) (bytes_of summary_bytes u)) (from + start) (bytes_of (run_bytes g) v))
              sum_next run_next)
              ∙ t.same;
          begun = es ∙ ap₂ ◌+◌ t.begun eb ∙ sym (ap (run_start g rs) (add-one r) ∙ start_more g rs r h);
          kept = ap length em ∙ length-sets (sets l (25 * r) a) (from + start) x ∙ length-sets l (25 * r) a ∙ t.kept;
        }
      where
        after_directory : length (bytes_of summary_bytes (drop (r + 1) sums)) ≡ 25 * (length rs - (r + 1))
        after_directory =
            length_bytes_of 25 summary_bytes length_summary (drop (r + 1) sums)
            ∙ ap (λ (k : ℕ). 25 * k) (length-drop (r + 1) sums ∙ ap (λ (k : ℕ). k - (r + 1)) (length_summaries g 0 rs))

    -- there is room for the run
    pub laid_room : length (run_section g rs) ≤ length d → (25 * r + 25 ≤ from) × (from + start + length (run_bytes g run) ≤ length l)
    laid_room fits = (
      omega arith,
      omega (
        arith,
        t.kept,
        fits,
        t.begun,
        start_more g rs r h,
        ap length (split_bytes (run_bytes g) (suc r) rs),
        section_long,
        length-append (bytes_of (run_bytes g) (take (suc r) rs)) (bytes_of (run_bytes g) (drop (suc r) rs)),
      ),
    )
      where
        section_long : length (run_section g rs) ≡ from + length (bytes_of (run_bytes g) rs)
        section_long = length_of_section g rs

  -- all is laid
  pub laid_all : (d l : List ℕ) (r start : ℕ) → Laid d l r start → length rs ≤ r → length (run_section g rs) ≤ length d
      → l ≡ run_section g rs ++ drop (length (run_section g rs)) d
  unfolding bytes_of
  laid_all d l r start t h fits =
      let a : drop r sums ≡ [] = drop_of_length-le sums {i = r} (omega (arith, length_summaries g 0 rs)) in
      let b : drop r rs ≡ [] = drop_of_length-le rs {i = r} h in
      sym (ap₂ (λ (u : List Summary) (v : List (List ℤ)). sets (sets l (25 * r) (bytes_of summary_bytes u)) (from + start) (bytes_of (run_bytes g) v)) a b)
      ∙ t.same ∙ sets_front d (run_section g rs) fits
