-- Document 02's lines on blocks of thousands of ids, each by one law for all counts: up to 4096 ids listed, 4097 to 61440 a bitmap, and
-- with fewer than 4096 missing those listed. (The lines that compute at once are format/proofs/PinsSets.antt.) Assumes nothing.
use Rattle.format.specs.Kit.{◌≡◌, refl, sym, ap, ap₂, ◌∙◌, true, false, List, [], ◌∷◌, ◌++◌, append-nil, map, ℕ, zero, suc, ◌+◌, ◌-◌, ◌*◌, ◌^◌, ◌<◌, ◌≤◌}
use Rattle.format.specs.Kit.{zero-le, pow-succ', arith, lit<, lit≤, length}
use Rattle.format.specs.Refusals.{Outcome, done}
use Rattle.format.specs.Bytes.{digits, low, bytes_of, count_from}
use Rattle.format.specs.HeaderNumbers.{groups, number}
use Rattle.format.specs.Ids.{Run, runs, bitmap, count_below}
use Rattle.format.specs.IdsRead.{ids_of}
use Rattle.format.specs.Pairs.{Below, Asc, ValidIds}
use Rattle.format.specs.Runs.{Fine}
use Rattle.format.specs.Walk.{listed}
use Rattle.format.specs.SetBytes.{set_kind, missing, set_list, set_data, set_block_as, set_block, set_bytes}
use Rattle.format.specs.SetCalls.{set_check, Member, member_at, no_member, member_in, set_find}
use Rattle.laws.proofs.Places.{asc_weaken}
use Rattle.laws.proofs.Section.{length_count_from}
use Rattle.judge.proofs.Parts.{asc_count, below_count}
use Rattle.judge.proofs.Grouped.{runs_ids, below_ids}
use Rattle.set_format.proofs.Missing.{missing_asc, missing_below, missing_length, missing_back, missing_count, missing_listed}
use Rattle.set_format.proofs.Data.{kind_listed, kind_missing, kind_bitmap}
use Rattle.set_format.proofs.Demands.{checked, sought}

-- ---- a list whose ids are all in block 0

map_places : (rs : List ℕ) → map (λ r. 0 * 65536 + r) rs ≡ rs
map_places [] = refl
map_places (r ∷ rs) = ap₂ {C = List ℕ} (λ (x : ℕ) (l : List ℕ). x ∷ l) (omega arith) (map_places rs)

module _ (rs : List ℕ) (t : Asc 0 rs) (u : Below 65536 rs) (some : zero < length rs) where
  abbrev only : Run
  only = record { block = 0; places = rs }

  fine : Fine only
  fine = record { number = lit< tt; some_place = some; ascending = t; inside = u }

  its_ids : ids_of (only ∷ []) ≡ rs
  unfolding ids_of
  its_ids = append-nil (map (λ r. 0 * 65536 + r) rs) ∙ map_places rs

  its_runs : runs rs ≡ only ∷ []
  its_runs = ap runs (sym its_ids) ∙ runs_ids 0 (only ∷ []) (fine, tt) (zero-le, tt)

  pub valid : ValidIds rs
  valid =
      record {
        ascending = t;
        range = rw its_ids at (below_ids (only ∷ []) (fine, tt));
      }

  -- its bytes, by the kind of its block
  pub one_block : (k : ℕ) → set_kind (length rs) ≡ k
      → set_bytes rs ≡ 0x01 ∷ 0x00 ∷ (number k ++ (number (length (set_list k rs)) ++ set_data k rs))
  unfolding set_bytes bytes_of set_block set_block_as number groups
  one_block k e = rw (its_runs, e) (ap (λ (l : List ℕ). 0x01 ∷ 0x00 ∷ l) (append-nil _))

-- ---- by kind

-- up to 4096 ids: listed
pub first_listed : (n : ℕ) → zero < n → n ≤ 4096 → set_bytes (count_from n 0) ≡ 0x01 ∷ 0x00 ∷ 0x00 ∷ (number n ++ bytes_of (low 2) (count_from n 0))
unfolding set_list set_data number groups
first_listed n h k =
    let e : length (count_from n 0) ≡ n = length_count_from n 0 in
    one_block (count_from n 0) (asc_count n 0) (below_count n 0 65536 (omega arith)) (omega arith) 0 (kind_listed _ (omega arith))
    ∙ ap (λ (m : ℕ). 0x01 ∷ 0x00 ∷ 0x00 ∷ (number m ++ bytes_of (low 2) (count_from n 0))) e

bits_first : (n a : ℕ) → bitmap (count_from n a) + 2 ^ a ≡ 2 ^ (a + n)
unfolding bitmap count_from
bits_first zero a = omega (arith, ap (λ (m : ℕ). 2 ^ m) same)
  where
    same : a + zero ≡ a
    same = omega arith
bits_first (suc n) a = omega (arith, bits_first n (suc a), pow-succ' 2 a, ap (λ (m : ℕ). 2 ^ m) same)
  where
    same : suc a + n ≡ a + suc n
    same = omega arith

-- 4097 to 61440: a bitmap
pub first_bitmap : (n : ℕ) → 4096 < n → n ≤ 61440 → set_bytes (count_from n 0) ≡ 0x01 ∷ 0x00 ∷ 0x02 ∷ 0x00 ∷ low 8192 (2 ^ n - 1)
unfolding set_list set_data number groups
first_bitmap n h k =
    let e : length (count_from n 0) ≡ n = length_count_from n 0 in
    let same : 0 + n ≡ n = omega arith in
    let b : bitmap (count_from n 0) ≡ 2 ^ n - 1 = omega (arith, bits_first n 0, ap (λ (m : ℕ). 2 ^ m) same) in
    one_block (count_from n 0) (asc_count n 0) (below_count n 0 65536 (omega arith)) (omega arith) 2 (kind_bitmap _ (omega arith) (omega arith))
    ∙ ap (λ (m : ℕ). 0x01 ∷ 0x00 ∷ 0x02 ∷ 0x00 ∷ low 8192 m) b

-- fewer than 4096 missing: these listed
module _ (ms : List ℕ) (t : Asc 0 ms) (u : Below 65536 ms) (few : length ms < 4096) where
  abbrev others : List ℕ
  others = missing 65536 0 ms

  count : length ms + length others ≡ 65536
  count = missing_length 65536 0 ms t u

  pub all_but : set_bytes others ≡ 0x01 ∷ 0x00 ∷ 0x01 ∷ (number (length ms) ++ bytes_of (low 2) ms)
  unfolding set_list set_data number groups
  all_but =
      one_block others (missing_asc 65536 0 ms) (missing_below 65536 0 65536 ms (lit≤ tt)) (omega (arith, count)) 1
      (kind_missing (length others) (omega (arith, count)) (omega (arith, count)))
      ∙ ap (λ (l : List ℕ). 0x01 ∷ 0x00 ∷ 0x01 ∷ (number (length l) ++ bytes_of (low 2) l)) (missing_back 65536 0 ms t u)

  valid_others : ValidIds others
  valid_others = valid others (missing_asc 65536 0 ms) (missing_below 65536 0 65536 ms (lit≤ tt)) (omega (arith, count))

  pub count_but : set_check (set_bytes others) ≡ done (65536 - length ms)
  count_but = checked others valid_others ∙ ap {B = Outcome ℕ} (λ (n : ℕ). done n) (omega (arith, count))

  -- an ordinal counts no missing place
  pub found_but : (id : ℕ) → id < 65536 → listed id ms ≡ false → set_find (set_bytes others) id ≡ done (member_at (id - count_below id ms))
  unfolding member_in
  found_but id h e =
      let there : listed id others ≡ true = missing_listed 65536 0 id ms t u zero-le (omega arith) ∙ rw e refl in
      let o : count_below id others ≡ id - count_below id ms = omega (arith, missing_count 65536 0 id ms t u zero-le (omega arith)) in
      sought others valid_others id (omega arith) ∙ rw (there, o)

  pub absent_but : (id : ℕ) → id < 65536 → listed id ms ≡ true → set_find (set_bytes others) id ≡ done no_member
  unfolding member_in
  absent_but id h e =
      let gone : listed id others ≡ false = missing_listed 65536 0 id ms t u zero-le (omega arith) ∙ rw e refl in
      sought others valid_others id (omega arith) ∙ rw gone

-- ---- the lines

-- all but the places from n on, of which there are few
abbrev pub first_of : ℕ → List ℕ
first_of n = missing 65536 0 (count_from (65536 - n) n)

pub record Lines : Type 0 where
  pub most_listed : set_bytes (count_from 4096 0) ≡ 0x01 ∷ 0x00 ∷ 0x00 ∷ 0x80 ∷ 0x20 ∷ bytes_of (low 2) (count_from 4096 0)
  pub least_bitmap : set_bytes (count_from 4097 0) ≡ 0x01 ∷ 0x00 ∷ 0x02 ∷ 0x00 ∷ low 8192 (2 ^ 4097 - 1)
  -- 61440 ids, 4096 missing
  pub most_bitmap : set_bytes (count_from 61440 0) ≡ 0x01 ∷ 0x00 ∷ 0x02 ∷ 0x00 ∷ low 8192 (2 ^ 61440 - 1)
  -- 61441 ids, 4095 missing
  pub most_missing : set_bytes (first_of 61441) ≡ 0x01 ∷ 0x00 ∷ 0x01 ∷ 0xFF ∷ 0x1F ∷ bytes_of (low 2) (count_from 4095 61441)
  -- 003's example, 65534 ids: 65534 and 65535 are listed
  pub example : set_bytes (first_of 65534) ≡ 0x01 ∷ 0x00 ∷ 0x01 ∷ 0x02 ∷ 0xFE ∷ 0xFF ∷ 0xFF ∷ 0xFF ∷ []
  pub one_missing : set_bytes (first_of 65535) ≡ 0x01 ∷ 0x00 ∷ 0x01 ∷ 0x01 ∷ 0xFF ∷ 0xFF ∷ []
  -- 65536 ids: nothing missing, length 0
  pub none_missing : set_bytes (first_of 65536) ≡ 0x01 ∷ 0x00 ∷ 0x01 ∷ 0x00 ∷ []
  pub count_all : set_check (0x01 ∷ 0x00 ∷ 0x01 ∷ 0x00 ∷ []) ≡ done 65536
  pub find_last : set_find (0x01 ∷ 0x00 ∷ 0x01 ∷ 0x00 ∷ []) 65535 ≡ done (member_at 65535)
  -- all but place 5
  pub count_but_five : set_check (0x01 ∷ 0x00 ∷ 0x01 ∷ 0x01 ∷ 0x05 ∷ 0x00 ∷ []) ≡ done 65535
  pub find_five : set_find (0x01 ∷ 0x00 ∷ 0x01 ∷ 0x01 ∷ 0x05 ∷ 0x00 ∷ []) 5 ≡ done no_member
  pub find_six : set_find (0x01 ∷ 0x00 ∷ 0x01 ∷ 0x01 ∷ 0x05 ∷ 0x00 ∷ []) 6 ≡ done (member_at 5)

module _ (n : ℕ) (h : 61440 < n) (k : n ≤ 65536) where
  long : length (count_from (65536 - n) n) < 4096
  long = omega (arith, length_count_from (65536 - n) n)

  but_last : set_bytes (first_of n) ≡ 0x01 ∷ 0x00 ∷ 0x01 ∷ (number (65536 - n) ++ bytes_of (low 2) (count_from (65536 - n) n))
  but_last =
      all_but (count_from (65536 - n) n) (asc_weaken zero-le (count_from (65536 - n) n) (asc_count (65536 - n) n))
      (below_count (65536 - n) n 65536 (omega arith)) long
      ∙ ap (λ (m : ℕ). 0x01 ∷ 0x00 ∷ 0x01 ∷ (number m ++ bytes_of (low 2) (count_from (65536 - n) n))) (length_count_from (65536 - n) n)

-- nothing missing, and place 5 missing
none_but : set_bytes (missing 65536 0 []) ≡ 0x01 ∷ 0x00 ∷ 0x01 ∷ 0x00 ∷ []
unfolding number groups bytes_of
none_but = all_but [] tt tt (lit< tt)

five_but : set_bytes (missing 65536 0 (5 ∷ [])) ≡ 0x01 ∷ 0x00 ∷ 0x01 ∷ 0x01 ∷ 0x05 ∷ 0x00 ∷ []
unfolding number groups bytes_of digits
five_but = all_but (5 ∷ []) (zero-le, tt) (lit< tt, tt) (lit< tt)

find_in : {s s' : List ℕ} (id : ℕ) {o : Outcome Member} → s ≡ s' → set_find s id ≡ o → set_find s' id ≡ o
find_in id e f = ap (λ (b : List ℕ). set_find b id) (sym e) ∙ f

long_lists : (set_bytes (count_from 4096 0) ≡ 0x01 ∷ 0x00 ∷ 0x00 ∷ 0x80 ∷ 0x20 ∷ bytes_of (low 2) (count_from 4096 0))
    × (set_bytes (first_of 61441) ≡ 0x01 ∷ 0x00 ∷ 0x01 ∷ 0xFF ∷ 0x1F ∷ bytes_of (low 2) (count_from 4095 61441))
unfolding number groups
long_lists = (first_listed 4096 (lit< tt) (lit≤ tt), but_last 61441 (lit< tt) (lit≤ tt))

short_lists : (set_bytes (first_of 65534) ≡ 0x01 ∷ 0x00 ∷ 0x01 ∷ 0x02 ∷ 0xFE ∷ 0xFF ∷ 0xFF ∷ 0xFF ∷ [])
    × (set_bytes (first_of 65535) ≡ 0x01 ∷ 0x00 ∷ 0x01 ∷ 0x01 ∷ 0xFF ∷ 0xFF ∷ [])
    × (set_bytes (first_of 65536) ≡ 0x01 ∷ 0x00 ∷ 0x01 ∷ 0x00 ∷ [])
unfolding number groups bytes_of count_from digits
short_lists = (but_last 65534 (lit< tt) (lit≤ tt), but_last 65535 (lit< tt) (lit≤ tt), but_last 65536 (lit< tt) (lit≤ tt))

pub lines : Lines
unfolding count_below listed
lines =
    record {
      most_listed = long_lists.0;
      least_bitmap = first_bitmap 4097 (lit< tt) (lit≤ tt);
      most_bitmap = first_bitmap 61440 (lit< tt) (lit≤ tt);
      most_missing = long_lists.1;
      example = short_lists.0;
      one_missing = short_lists.1;
      none_missing = short_lists.2;
      count_all = ap set_check (sym none_but) ∙ count_but [] tt tt (lit< tt);
      find_last = find_in 65535 none_but (found_but [] tt tt (lit< tt) 65535 (lit< tt) refl);
      count_but_five = ap set_check (sym five_but) ∙ count_but (5 ∷ []) (zero-le, tt) (lit< tt, tt) (lit< tt);
      find_five = find_in 5 five_but (absent_but (5 ∷ []) (zero-le, tt) (lit< tt, tt) (lit< tt) 5 (lit< tt) refl);
      find_six = find_in 6 five_but (found_but (5 ∷ []) (zero-le, tt) (lit< tt, tt) (lit< tt) 6 (lit< tt) refl);
    }
