-- One scan of a sparse block serves every place from r on, in whatever order its entries stand. Assumes nothing.
use Rattle.format.specs.Kit.{◌≡◌, refl, sym, ap, ap₂, ◌∙◌, List, Option, none, some, ℕ, zero, suc, ◌+◌, ◌-◌, ◌*◌, ◌<◌, ◌≤◌, add-zero, arith, drop, add-one}
use Rattle.format.specs.Kit.{eq-eqb, ne_eqb, lt-ltb, le-ltb}
use Rattle.format.specs.Bytes.{low_at}
use Rattle.format.specs.IdsRead.{shorts}
use Rattle.format.specs.LookUp.{scan, in_sparse}
use Rattle.laws.proofs.Cases.{below_or}
use Rattle.laws.proofs.Standing.{short_next}
use Rattle.next_in_block.specs.First.{meets, meets_none, meets_by, first_in, scan_at, entry_in, Below, FirstEntry}
use Rattle.next_in_block.proofs.Run.{first_is, none_is}

-- ---- the scan for one place

-- what is left of the scan of c entries at t, from entry i on
abbrev scan_left : List ℕ → ℕ → ℕ → ℕ → ℕ → Option ℕ
scan_left s t c r i = scan r i (shorts (c - i) (drop (t + 2 * i) s))

scan_begin : (s : List ℕ) (t c r : ℕ) → scan_left s t c r 0 ≡ scan r 0 (shorts c (drop t s))
scan_begin s t c r =
    let e : c - 0 ≡ c = omega arith in
    ap₂ (λ (x y : ℕ). scan r 0 (shorts x (drop y s))) e (add-zero t)

module _ (s : List ℕ) (t c r i : ℕ) (h : i < c) where
  scan_on : low_at 2 s (t + 2 * i) < r → scan_left s t c r i ≡ scan_left s t c r (i + 1)
  unfolding scan
  scan_on l = rw (short_next s t c i h, lt-ltb _ r l, add-one i)

  scan_found : low_at 2 s (t + 2 * i) ≡ r → scan_left s t c r i ≡ some i
  unfolding scan
  scan_found l = rw (short_next s t c i h, le-ltb (low_at 2 s (t + 2 * i)) r (omega arith), eq-eqb (low_at 2 s (t + 2 * i)) r l)

  scan_past : r < low_at 2 s (t + 2 * i) → scan_left s t c r i ≡ none
  unfolding scan
  scan_past l = rw (short_next s t c i h, le-ltb (low_at 2 s (t + 2 * i)) r (omega arith), ne_eqb (low_at 2 s (t + 2 * i)) r (λ z. omega arith))

scan_end : (s : List ℕ) (t c r i : ℕ) → c ≤ i → scan_left s t c r i ≡ none
unfolding scan shorts
scan_end s t c r i h =
    let e : c - i ≡ 0 = omega arith in
    rw e

-- entries below r are passed over
scan_passed : (s : List ℕ) (t c r i : ℕ) → i ≤ c → ((k : ℕ) → k < i → entry_in s t k < r) → scan r 0 (shorts c (drop t s)) ≡ scan_left s t c r i
scan_passed s t c r zero h l = sym (scan_begin s t c r)
scan_passed s t c r (suc i) h l =
    scan_passed s t c r i (omega arith) (λ k m. l k (omega arith)) ∙ scan_on s t c r i (omega arith) (l i (omega arith))
    ∙ ap (scan_left s t c r) (add-one i)

-- ---- the turns of a loop over the entries

module _ (s : List ℕ) (t c r : ℕ) where
  pub none_passed : Below s t c r 0
  none_passed = record { most = omega arith; before = λ k h. absurd (omega arith) }

  pub sixteen_passed : (i : ℕ) → Below s t c r i → i + 16 ≤ c → ((k : ℕ) → k < 16 → entry_in s (t + 2 * i) k < r) → Below s t c r (i + 16)
  sixteen_passed i b h l =
      record {
        most = h;
        before = λ k m. below_or k i (b.before k)
            (λ n. let e : t + 2 * i + 2 * (k - i) ≡ t + 2 * k = omega arith in rw e at (l (k - i) (omega arith)));
      }

  pub one_passed : (i : ℕ) → Below s t c r i → i < c → entry_in s t i < r → Below s t c r (i + 1)
  one_passed i b h l =
      record {
        most = omega arith;
        before = λ k m. below_or k i (b.before k) (λ n. let e : k ≡ i = omega arith in rw e l);
      }

-- ---- all places from r on

module _ (s : List ℕ) (t c r i : ℕ) (f : FirstEntry s t c r i) where
  left : (y : ℕ) → r ≤ y → scan y 0 (shorts c (drop t s)) ≡ scan_left s t c y i
  left y h = scan_passed s t c y i f.passed.most (λ k m. omega (arith, f.passed.before k m))

  -- the entry stands for the first place
  pub entry_first : i < c → entry_in s t i < 65536 → first_in (65536 - r) (scan_at s t c) r ≡ meets (entry_in s t i) i
  unfolding meets_by in_sparse
  entry_first h m =
      let x : ℕ = entry_in s t i in
      let from : r ≤ x = f.from h in
      first_is (scan_at s t c) 0 (65536 - r) r x from (omega arith) (λ z a b. ap in_sparse (left z a ∙ scan_past s t c z i h b))
      ∙ rw (left x from ∙ scan_found s t c x i h refl)

  pub entry_none : c ≤ i → first_in (65536 - r) (scan_at s t c) r ≡ meets_none
  unfolding in_sparse
  entry_none h = none_is (scan_at s t c) 0 (65536 - r) r (λ z a b. ap in_sparse (left z a ∙ scan_end s t c z i h))
