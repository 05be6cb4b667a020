-- A place looked up in a block: step 5 and step 6. Assumes nothing.
use Rattle.format.specs.Kit.{◌≡◌, refl, sym, ap, ◌∙◌, Bool, true, false, cond, List, [], ◌∷◌, ◌++◌, append_assoc, Option, none, some, ℕ, zero}
use Rattle.format.specs.Kit.{suc, ◌+◌, ◌-◌, ◌*◌, ◌/◌, ◌%◌, ◌^◌, ◌<◌, ◌≤◌, zero-le, add-zero, zero-add, mod-eq-sub-div-mul, div-div-eq-div-mul}
use Rattle.format.specs.Kit.{sub-zero, arith, eqb, pow-add, length, drop, ne_eqb, eq-eqb, lt-ltb, le-ltb}
use Rattle.format.specs.Bytes.{low, bytes_of, count_from}
use Rattle.format.specs.Ids.{sparse, dense, by_kind, kind_of, bitmap, count_below, rank_table, block_data}
use Rattle.format.specs.IdsRead.{shorts}
use Rattle.format.specs.Pairs.{Below, Asc}
use Rattle.format.specs.LookUp.{inside, nowhere, Rule, scan, scanned, in_sparse, stride_long, dense_at, place_at}
use Rattle.format.specs.Walk.{listed}
use Rattle.laws.proofs.Cases.{below_or, equal_or, true_or}
use Rattle.laws.proofs.Places.{asc_length, all_places, shorts_back}
use Rattle.laws.proofs.Blocks.{kind_sparse, kind_dense, kind_all}
use Rattle.laws.proofs.Dense.{dense_is}
use Rattle.laws.proofs.Find.{occurs_listed, count_lt}

-- ---- a sparse block

pub listed_higher : (r a : ℕ) (rs : List ℕ) → r < a → Asc a rs → listed r rs ≡ false
unfolding listed
listed_higher r a [] h t = refl
listed_higher r a (x ∷ xs) h t = rw (ne_eqb x r (λ e. omega (arith, t.0))) (listed_higher r (suc x) xs (omega (arith, t.0)) t.1)

pub count_higher : (r a : ℕ) (rs : List ℕ) → r ≤ a → Asc a rs → count_below r rs ≡ 0
unfolding count_below
count_higher r a [] h t = refl
count_higher r a (x ∷ xs) h t = rw (le-ltb x r (omega (arith, t.0)), count_higher r (suc x) xs (omega (arith, t.0)) t.1)

scan_is : (r i a : ℕ) (rs : List ℕ) → Asc a rs → scan r i rs ≡ cond (listed r rs) (some (i + count_below r rs)) none
unfolding scan listed count_below
scan_is r i a [] t = refl
scan_is r i a (x ∷ xs) t =
    below_or x r
    (λ h.
    rw (lt-ltb x r h, ne_eqb x r (λ e. omega arith))
    (scan_is r (suc i) (suc x) xs t.1 ∙ ap (λ (n : ℕ). cond (listed r xs) (some n) none) (omega arith)))
    (λ h.
    equal_or x r
    (λ e. rw (le-ltb x r h, eq-eqb x r e, count_higher r (suc x) xs (omega arith) t.1) (ap {B = Option ℕ} some (sym (add-zero i))))
    (λ e. rw (le-ltb x r h, ne_eqb x r e, listed_higher r (suc x) xs (omega arith) t.1)))

-- a rule that finds what is listed in ascending entries, at the number of entries below it
abbrev pub Finds : Rule → Type 0
Finds rule = (r : ℕ) (xs : List ℕ) → Asc 0 xs → rule r xs ≡ cond (listed r xs) (some (count_below r xs)) none

pub scan_finds : Finds scanned
scan_finds r xs t = scan_is r 0 0 xs t ∙ ap (λ (n : ℕ). cond (listed r xs) (some n) none) (zero-add (count_below r xs))

-- ---- a full block

full_listed : (r k a : ℕ) → a ≤ r → r < a + k → listed r (count_from k a) ≡ true
unfolding listed count_from
full_listed r zero a h l = absurd (omega arith)
full_listed r (suc k) a h l =
    equal_or a r (λ e. rw (eq-eqb a r e)) (λ e. rw (ne_eqb a r e) (full_listed r k (suc a) (omega arith) (omega arith)))

full_count : (r k a : ℕ) → a ≤ r → r ≤ a + k → count_below r (count_from k a) ≡ r - a
unfolding count_below count_from
full_count r zero a h l = omega arith
full_count r (suc k) a h l =
    below_or a r
    (λ g. rw (lt-ltb a r g) (omega (arith, full_count r k (suc a) (omega arith) (omega arith))))
    (λ g. rw (le-ltb a r g, count_later r k (suc a) (omega arith)) (omega arith))
  where
    count_later : (r k a : ℕ) → r < a → count_below r (count_from k a) ≡ 0
    count_later r zero a h = refl
    count_later r (suc k) a h = rw (le-ltb a r (omega arith), count_later r k (suc a) (omega arith))

-- ---- any block

-- the words of a place, in a block of c ids
unfoldable pub words_in : ℕ → ℕ → ℕ → Bool → ℕ
words_in p c r q = by_kind (kind_of c) 0 (cond q (cond (eqb p 0) (r / 64 + 1) (r / 64 % 2 ^ (p - 6) + 1)) 1) 0

pub stride_words_lem : (p r : ℕ) → ((p ≡ 0 → ⊥) → 6 ≤ p) → r / 64 - stride_long p r + 1 ≡ cond (eqb p 0) (r / 64 + 1) (r / 64 % 2 ^ (p - 6) + 1)
unfolding stride_long
stride_words_lem p r h =
    equal_or p 0
    (λ e. rw (eq-eqb p 0 e, sub-zero))
    (λ e.
    let six : p ≡ 6 + (p - 6) = omega (arith, h e) in
    let stride : r / 2 ^ p ≡ r / 64 / 2 ^ (p - 6) =
    ap (λ (n : ℕ). r / n) (ap (λ (n : ℕ). 2 ^ n) six ∙ pow-add 2 6 (p - 6)) ∙ sym (div-div-eq-div-mul r 64 (2 ^ (p - 6))) in
    rw (ne_eqb p 0 e)
    (ap (λ (n : ℕ). n + 1) (ap (λ (n : ℕ). r / 64 - n * 2 ^ (p - 6)) stride ∙ sym (mod-eq-sub-div-mul (r / 64) (2 ^ (p - 6))))))

module _ (rule : Rule) (finds : Finds rule) (p : ℕ) (rs s : List ℕ) (t : ℕ) (rest : List ℕ) (asc : Asc 0 rs) (below : Below 65536 rs)
    (here : drop t s ≡ block_data p rs ++ rest) (hp : p ≤ 16) (hq : (p ≡ 0 → ⊥) → 6 ≤ p) (r : ℕ) (hr : r < 65536) where
  in_dense : kind_of (length rs) ≡ dense → dense_at p s t (length rs) r
      ≡ cond (listed r rs) (inside (count_below r rs) (r / 64 - stride_long p r + 1)) (nowhere 1)
  unfolding block_data by_kind
  in_dense e =
      dense_is p rs s t rest asc (here ∙ rw e (append_assoc (rank_table p rs) (low 8192 (bitmap rs)) rest)) hp hq r hr (length rs)
      ∙ true_or (listed r rs)
      (λ l. rw (occurs_listed r rs, l, lt-ltb (count_below r rs) (length rs) (count_lt r rs l)))
      (λ l. rw (occurs_listed r rs, l))

  in_sparse_lem : kind_of (length rs) ≡ sparse → in_sparse (rule r (shorts (length rs) (drop t s)))
      ≡ cond (listed r rs) (inside (count_below r rs) 0) (nowhere 0)
  unfolding block_data by_kind in_sparse
  in_sparse_lem e =
      ap (λ (l : List ℕ). in_sparse (rule r (shorts (length rs) l))) there
      ∙ ap (λ (l : List ℕ). in_sparse (rule r l)) (shorts_back rs rest below)
      ∙ ap in_sparse (finds r rs asc)
      ∙ true_or (listed r rs) (λ q. rw q) (λ q. rw q)
    where
      there : drop t s ≡ bytes_of (low 2) rs ++ rest
      there = here ∙ rw e refl

  in_all : 65536 ≤ length rs → inside r 0 ≡ cond (listed r rs) (inside (count_below r rs) 0) (nowhere 0)
  in_all k = rw (ap (listed r) full ∙ full_listed r 65536 0 zero-le hr, ap (count_below r) full ∙ full_count r 65536 0 zero-le (omega arith), sub-zero)
    where
      full : rs ≡ count_from 65536 0
      full = all_places 65536 0 rs asc below (omega (arith, asc_length 0 65536 rs zero-le asc below))

  dense_words : (q : Bool) (x y i : ℕ) → x ≡ y → cond q (inside i x) (nowhere 1) ≡ cond q (inside i (cond q y 1)) (nowhere (cond q y 1))
  dense_words true x y i e = ap (inside i) e
  dense_words false x y i e = refl

  pub place_is : place_at rule p s t (length rs) r
      ≡ cond (listed r rs) (inside (count_below r rs) (words_in p (length rs) r (listed r rs))) (nowhere (words_in p (length rs) r (listed r rs)))
  unfolding place_at words_in by_kind
  place_is =
      below_or (length rs) 4096
      (λ h. rw (kind_sparse (length rs) h) (in_sparse_lem (kind_sparse (length rs) h)))
      (λ h.
      below_or (length rs) 65536
      (λ k.
      rw (kind_dense (length rs) h k)
      (in_dense (kind_dense (length rs) h k)
      ∙ dense_words (listed r rs) (r / 64 - stride_long p r + 1) (cond (eqb p 0) (r / 64 + 1) (r / 64 % 2 ^ (p - 6) + 1)) (count_below r rs)
      (stride_words_lem p r hq)))
      (λ k. rw (kind_all (length rs) k) (in_all k)))
