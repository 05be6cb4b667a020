-- One block's data: what passes the tests is the data of its places, and the data of places pass them and give the places back.
-- Assumes nothing.
use Rattle.format.specs.Kit.{List, ◌*◌, ◌++◌, ◌+◌, ◌-◌, ◌<◌, ◌^◌, ◌∙◌, ◌≡◌, ◌≤◌, ap, arith, drop, drop_at, drop-drop, eq-eqb, eqb, eqb-true, false, le-leb}
use Rattle.format.specs.Kit.{le-ltb, leb-true, length, length-append, length-drop, lit≤, lt-leb, lt-ltb, ltb-true, ne_eqb, refl, subst, suc, sym, take, true}
use Rattle.format.specs.Kit.{zero, zero-le, ℕ}
use Rattle.format.specs.Bytes.{bytes_of, from_low, low}
use Rattle.format.specs.Ids.{bitmap}
use Rattle.format.specs.IdsRead.{set_bits, shorts}
use Rattle.format.specs.LookUp.{ones_from}
use Rattle.format.specs.Pairs.{Asc, Below, asc_from}
use Rattle.format.specs.Orders.{low_byte}
use Rattle.format.specs.SetBytes.{missing, set_data, set_kind, set_list}
use Rattle.format.specs.SetCalls.{list_length_ok, set_data_bytes, set_data_fits, set_data_ok, set_places}
use Rattle.laws.proofs.Blocks.{low_back}
use Rattle.laws.proofs.Cases.{below_or}
use Rattle.laws.proofs.Digits.{below_drop, length_digits}
use Rattle.laws.proofs.Places.{bitmap_is, bits_lt, shorts_back, take_low}
use Rattle.laws.proofs.Probes.{length_shorts}
use Rattle.laws.proofs.Section.{length_bytes_of_lem}
use Rattle.laws.proofs.SetBits.{bitmap_set, bits_back, set_asc, set_below}
use Rattle.laws.proofs.Tests.{both_true}
use Rattle.judge.proofs.Parts.{asc_test, test_asc}
use Rattle.judge.proofs.Numbers.{number_split, first_lt}
use Rattle.judge.proofs.LowFirst.{shorts_below, shorts_bytes, ones_low}
use Rattle.set_format.proofs.Missing.{missing_asc, missing_back, missing_below, missing_length}

-- ---- the choice of a kind

pub kind_listed : (c : ℕ) → c ≤ 4096 → set_kind c ≡ 0
unfolding set_kind
kind_listed c h = rw (le-leb c 4096 h)

pub kind_missing : (c : ℕ) → 4096 < c → 65536 - c < 4096 → set_kind c ≡ 1
unfolding set_kind
kind_missing c h k = rw (lt-leb c 4096 h, lt-ltb (65536 - c) 4096 k)

pub kind_bitmap : (c : ℕ) → 4096 < c → 4096 ≤ 65536 - c → set_kind c ≡ 2
unfolding set_kind
kind_bitmap c h k = rw (lt-leb c 4096 h, le-ltb (65536 - c) 4096 k)

pub by_count : {X : Type 0} (c : ℕ) → (c ≤ 4096 → X) → (4096 < c → 65536 - c < 4096 → X) → (4096 < c → 4096 ≤ 65536 - c → X) → X
by_count c f g h = below_or 4096 c (λ a. below_or (65536 - c) 4096 (λ b. g a b) (λ b. h a b)) (λ a. f a)

pub kind_le : (c : ℕ) → set_kind c ≤ 2
kind_le c =
    by_count c
    (λ a. omega (arith, kind_listed c a))
    (λ a b. omega (arith, kind_missing c a b))
    (λ a b. omega (arith, kind_bitmap c a b))

pub length_shorts_bytes : (xs : List ℕ) → length (bytes_of (low 2) xs) ≡ 2 * length xs
length_shorts_bytes xs = length_bytes_of_lem 2 (low 2) (λ x. length_digits 256 2 x) xs

-- a list is short
pub list_short : (rs : List ℕ) → Asc 0 rs → Below 65536 rs → length (set_list (set_kind (length rs)) rs) ≤ 4096
unfolding set_list
list_short rs t u =
    by_count (length rs)
    (λ a. rw (kind_listed (length rs) a) a)
    (λ a b. rw (kind_missing (length rs) a b) (omega (arith, missing_length 65536 0 rs t u)))
    (λ a b. rw (kind_bitmap (length rs) a b) zero-le)

-- data that pass are not cut off
pub fits : (at t c : ℕ) (s : List ℕ) → set_data_ok t c s at ≡ true → at + set_data_bytes t c ≤ length s
unfolding set_data_ok
fits at t c s e = leb-true (at + set_data_bytes t c) (length s) (both_true _ _ e).0

-- ---- from the tests

-- the places that the data at a place hold
pub record Held (t c : ℕ) (s : List ℕ) (at : ℕ) (rs : List ℕ) : Type 0 where
  pub ascending : Asc 0 rs
  pub inside : Below 65536 rs
  pub some_place : zero < length rs
  pub kind : set_kind (length rs) ≡ t
  pub long : length (set_list t rs) ≡ c
  pub bytes : drop at s ≡ set_data t rs ++ drop (at + set_data_bytes t c) s

module _ (s : List ℕ) (u : Below 256 s) (at : ℕ) where
  -- c ascending shorts
  record Shorts (c : ℕ) : Type 0 where
    ascending : Asc 0 (shorts c (drop at s))
    inside : Below 65536 (shorts c (drop at s))
    long : length (shorts c (drop at s)) ≡ c
    bytes : drop at s ≡ bytes_of (low 2) (shorts c (drop at s)) ++ drop (at + 2 * c) s

  the_shorts : (c : ℕ) → at + 2 * c ≤ length s → asc_from 0 (shorts c (drop at s)) ≡ true → Shorts c
  the_shorts c h e =
      let fits : 2 * c ≤ length (drop at s) = omega (arith, length-drop at s) in
      let v : Below 256 (drop at s) = below_drop 256 at s u in
      record {
        ascending = asc_test 0 (shorts c (drop at s)) e;
        inside = shorts_below c (drop at s) fits v;
        long = length_shorts c (drop at s);
        bytes = sym (shorts_bytes c (drop at s) fits v) ∙ ap (λ (l : List ℕ). bytes_of (low 2) (shorts c (drop at s)) ++ l) (drop-drop (2 * c) at s);
      }

  held_listed : (c : ℕ) → 1 ≤ c → c ≤ 4096 → Shorts c → Held 0 c s at (shorts c (drop at s))
  unfolding set_list set_data set_data_bytes
  held_listed c h k d =
      record {
        ascending = d.ascending;
        inside = d.inside;
        some_place = omega (arith, d.long);
        kind = kind_listed (length (shorts c (drop at s))) (omega (arith, d.long));
        long = d.long;
        bytes = d.bytes;
      }

  held_missing : (c : ℕ) → c < 4096 → Shorts c → Held 1 c s at (missing 65536 0 (shorts c (drop at s)))
  unfolding set_list set_data set_data_bytes
  held_missing c h d =
      let ms : List ℕ = shorts c (drop at s) in
      let back : missing 65536 0 (missing 65536 0 ms) ≡ ms = missing_back 65536 0 ms d.ascending d.inside in
      let n : length ms + length (missing 65536 0 ms) ≡ 65536 = missing_length 65536 0 ms d.ascending d.inside in
      record {
        ascending = missing_asc 65536 0 ms;
        inside = missing_below 65536 0 65536 ms (lit≤ tt);
        some_place = omega (arith, d.long);
        kind = kind_missing (length (missing 65536 0 ms)) (omega (arith, d.long)) (omega (arith, d.long));
        long = ap length back ∙ d.long;
        bytes = d.bytes ∙ ap (λ (l : List ℕ). bytes_of (low 2) l ++ drop (at + 2 * c) s) (sym back);
      }

  module _ (h : at + 8192 ≤ length s) where
    abbrev pub number_of_lem : ℕ
    number_of_lem = from_low (take 8192 (drop at s))

    abbrev pub set : List ℕ
    set = set_bits 65536 0 number_of_lem

    enough : 8192 ≤ length (drop at s)
    enough = omega (arith, length-drop at s)

    set_number : bitmap set ≡ number_of_lem
    set_number = bitmap_set number_of_lem (first_lt low_byte 8192 (drop at s) enough (below_drop 256 at s u))

    pub longs : drop at s ≡ low 8192 (bitmap set) ++ drop 8192 (drop at s)
    longs =
        number_split low_byte 8192 (drop at s) enough (below_drop 256 at s u)
        ∙ ap (λ (n : ℕ). low 8192 n ++ drop 8192 (drop at s)) (sym set_number)

    pub ones_count : ones_from s at 1024 0 ≡ length set
    ones_count = ones_low s at set (drop 8192 (drop at s)) (set_asc 65536 0 number_of_lem) longs (set_below 65536 0 number_of_lem 65536 (lit≤ tt))

    held_bitmap : (c : ℕ) → c ≡ 0 → set_kind (ones_from s at 1024 0) ≡ 2 → Held 2 c s at set
    unfolding set_list set_data set_data_bytes
    held_bitmap c z e =
        let k : set_kind (length set) ≡ 2 = ap set_kind (sym ones_count) ∙ e in
        record {
          ascending = set_asc 65536 0 number_of_lem;
          inside = set_below 65536 0 number_of_lem 65536 (lit≤ tt);
          some_place =
              by_count (length set)
              (λ a. absurd (omega (arith, kind_listed (length set) a)))
              (λ a b. omega arith)
              (λ a b. omega arith);
          kind = k;
          long = sym z;
          bytes = longs ∙ ap (λ (l : List ℕ). low 8192 (bitmap set) ++ l) (drop-drop 8192 at s);
        }

  pub held : (t c : ℕ) → t ≤ 2 → list_length_ok t c ≡ true → set_data_ok t c s at ≡ true → Held t c s at (set_places t c (drop at s))
  unfolding list_length_ok set_data_ok set_data_fits set_places set_data_bytes
  held zero c h l d =
      let b = both_true _ _ l in
      let e = both_true _ _ d in
      held_listed c (leb-true 1 c b.0) (leb-true c 4096 b.1) (the_shorts c (leb-true _ _ e.0) e.1)
  held (suc zero) c h l d =
      let e = both_true _ _ d in
      held_missing c (ltb-true c 4096 l) (the_shorts c (leb-true _ _ e.0) e.1)
  held (suc (suc zero)) c h l d =
      let e = both_true _ _ d in
      held_bitmap (leb-true _ _ e.0) c (eqb-true c 0 l) (eqb-true _ _ e.1)
  held (suc (suc (suc t))) c h l d = absurd (omega arith)

-- ---- to the tests

pub record Passes (t : ℕ) (rs s : List ℕ) (at : ℕ) (rest : List ℕ) : Type 0 where
  pub long : list_length_ok t (length (set_list t rs)) ≡ true
  pub sound : set_data_ok t (length (set_list t rs)) s at ≡ true
  pub places : set_places t (length (set_list t rs)) (drop at s) ≡ rs
  pub behind : drop (at + set_data_bytes t (length (set_list t rs))) s ≡ rest

module _ (rs s : List ℕ) (at : ℕ) (rest : List ℕ) (some : zero < length rs) (asc : Asc 0 rs) (v : Below 65536 rs)
    (a : at ≤ length s) where
  -- the end of bytes that stand there
  ends : (l : List ℕ) (n : ℕ) → drop at s ≡ l ++ rest → length l ≡ n → at + n ≤ length s
  ends l n e h = omega (arith, length-drop at s, ap length e ∙ length-append l rest)

  -- and what stands behind them
  after : (l : List ℕ) (n : ℕ) → drop at s ≡ l ++ rest → length l ≡ n → drop (at + n) s ≡ rest
  after l n e h = sym (drop-drop n at s) ∙ ap (drop n) e ∙ drop_at l rest n h

  passes_listed : length rs ≤ 4096 → drop at s ≡ set_data 0 rs ++ rest → Passes 0 rs s at rest
  unfolding list_length_ok set_data_ok set_data_fits set_places set_data_bytes set_list set_data
  passes_listed h e =
      let back : shorts (length rs) (drop at s) ≡ rs = ap (shorts (length rs)) e ∙ shorts_back rs rest v in
      record {
        long = rw (le-leb 1 (length rs) some, le-leb (length rs) 4096 h);
        sound =
            rw (le-leb (at + 2 * length rs) (length s) (ends (bytes_of (low 2) rs) (2 * length rs) e (length_shorts_bytes rs)))
            (ap (asc_from 0) back ∙ test_asc 0 rs asc);
        places = back;
        behind = after (bytes_of (low 2) rs) (2 * length rs) e (length_shorts_bytes rs);
      }

  passes_missing : 65536 - length rs < 4096 → drop at s ≡ set_data 1 rs ++ rest → Passes 1 rs s at rest
  unfolding list_length_ok set_data_ok set_data_fits set_places set_data_bytes set_list set_data
  passes_missing h e =
      let ms : List ℕ = missing 65536 0 rs in
      let n : length rs + length ms ≡ 65536 = missing_length 65536 0 rs asc v in
      let back : shorts (length ms) (drop at s) ≡ ms = ap (shorts (length ms)) e ∙ shorts_back ms rest (missing_below 65536 0 65536 rs (lit≤ tt)) in
      let fits : at + 2 * length ms ≤ length s = ends (bytes_of (low 2) ms) (2 * length ms) e (length_shorts_bytes ms) in
      record {
        long = lt-ltb (length ms) 4096 (omega arith);
        sound = rw (le-leb (at + 2 * length ms) (length s) fits) (ap (asc_from 0) back ∙ test_asc 0 ms (missing_asc 65536 0 rs));
        places = ap (missing 65536 0) back ∙ missing_back 65536 0 rs asc v;
        behind = after (bytes_of (low 2) ms) (2 * length ms) e (length_shorts_bytes ms);
      }

  passes_bitmap : set_kind (length rs) ≡ 2 → drop at s ≡ set_data 2 rs ++ rest → Passes 2 rs s at rest
  unfolding list_length_ok set_data_ok set_data_fits set_places set_data_bytes set_list set_data
  passes_bitmap h e =
      let number : bitmap rs < 256 ^ 8192 = subst (λ (n : ℕ). n < 2 ^ 65536) (sym (bitmap_is rs)) (bits_lt 65536 0 rs asc v) in
      record {
        long = refl;
        sound =
            rw (le-leb (at + 8192) (length s) (ends (low 8192 (bitmap rs)) 8192 e (length_digits 256 8192 (bitmap rs))))
            (eq-eqb _ _ (ap set_kind (ones_low s at rs rest asc e v) ∙ h));
        places =
            ap (λ (l : List ℕ). set_bits 65536 0 (from_low (take 8192 l))) e
            ∙ ap (λ (l : List ℕ). set_bits 65536 0 (from_low l)) (take_low 8192 (bitmap rs) rest)
            ∙ ap (set_bits 65536 0) (low_back 8192 (bitmap rs) number ∙ bitmap_is rs) ∙ bits_back 65536 0 rs asc v;
        behind = after (low 8192 (bitmap rs)) 8192 e (length_digits 256 8192 (bitmap rs));
      }

  pub passes : drop at s ≡ set_data (set_kind (length rs)) rs ++ rest → Passes (set_kind (length rs)) rs s at rest
  passes =
      by_count (length rs)
      (λ h. rw (kind_listed (length rs) h) (λ e. passes_listed h e))
      (λ h k. rw (kind_missing (length rs) h k) (λ e. passes_missing k e))
      (λ h k.
      let b : set_kind (length rs) ≡ 2 = kind_bitmap (length rs) h k in
      rw b (λ e. passes_bitmap b e))

-- a bitmap of another kind's ones-count does not pass
pub other_kind : (rs s : List ℕ) (at : ℕ) (rest : List ℕ) → Asc 0 rs → Below 65536 rs → drop at s ≡ low 8192 (bitmap rs) ++ rest → (set_kind (length rs) ≡ 2 → ⊥)
    → set_data_ok 2 0 s at ≡ false
unfolding set_data_ok set_data_fits set_data_bytes
other_kind rs s at rest asc v e n =
    let k : eqb (set_kind (ones_from s at 1024 0)) 2 ≡ false = ne_eqb _ 2 (λ z. n (ap set_kind (sym (ones_low s at rs rest asc e v)) ∙ z)) in
    below_or (length s) (at + 8192)
    (λ l. rw (lt-leb (at + 8192) (length s) l))
    (λ l. rw (le-leb (at + 8192) (length s) l, k))
