-- Document 02, [11], the values of edition 3: in runs of 16384, the last one maybe shorter, one g for the whole column, own smallest value and
-- least width per run, bits high first. The value section opens with a directory of 25 bytes a run. Assumes nothing.
use Rattle.std.specs.Prelude.{◌+◌, ◌*◌, ◌/◌, ◌%◌, ◌&&◌, ◌||◌, ◌∷◌, ◌++◌}
use Rattle.format.specs.Kit.{ℕ, zero, suc, true, cond, List, [], Option, none, length, get_or, take, drop}
use Rattle.format.specs.Kit.{leb, eqb, ℤ}
use Rattle.format.specs.Limits.{max_width}
use Rattle.format.specs.Bytes.{bytes_of, low, low_at, twos, untwos}
use Rattle.format.specs.Bits.{packed, fetched}
use Rattle.format.specs.Values.{smallest, greatest, divisor, width_with, stored_with, value_at}
use Rattle.format.specs.Codec.{Codec, signed64}

-- the values of a run
abbrev pub run_length : ℕ
run_length = 16384

-- how many runs n values make
abbrev pub run_count : ℕ → ℕ
run_count n = (n + 16383) / 16384

-- the bytes of their directory
abbrev pub directory_length : ℕ → ℕ
directory_length n = 25 * run_count n

-- ---- the runs

-- the first k runs of a list
unfoldable pub runs_in : ℕ → List ℤ → List (List ℤ)
runs_in zero vs = []
runs_in (suc k) vs = take run_length vs ∷ runs_in k (drop run_length vs)

unfoldable pub runs_of : List ℤ → List (List ℤ)
runs_of vs = runs_in (run_count (length vs)) vs

-- a run's stored numbers at its least width, by the column's g
unfoldable pub run_bytes : ℕ → List ℤ → List ℕ
run_bytes g r = packed (width_with g r) (stored_with g r)

-- ---- the directory

-- what it says of a run; the start is a byte after the directory
pub record Summary : Type 0 where
  pub smallest : ℤ
  pub greatest : ℤ
  pub start : ℕ
  pub width : ℕ

unfoldable pub summary_of : ℕ → ℕ → List ℤ → Summary
summary_of g at r = record { smallest = smallest r; greatest = greatest r; start = at; width = width_with g r }

-- of runs of which the first starts at a byte, and each later one on the first byte after the run before
unfoldable pub summaries : ℕ → ℕ → List (List ℤ) → List Summary
summaries g at [] = []
summaries g at (r ∷ rs) = summary_of g at r ∷ summaries g (at + length (run_bytes g r)) rs

-- smallest, greatest (both two's complement) and start, 8 bytes each, low first; then one byte of width
unfoldable pub summary_bytes : Summary → List ℕ
summary_bytes x = low 8 (twos x.smallest) ++ (low 8 (twos x.greatest) ++ (low 8 x.start ++ (x.width ∷ [])))

-- of run r in a section
unfoldable pub summary_at : List ℕ → ℕ → Summary
summary_at s r =
    let at : ℕ = 25 * r in
    record {
      smallest = untwos (low_at 8 s at);
      greatest = untwos (low_at 8 s (at + 8));
      start = low_at 8 s (at + 16);
      width = get_or s (at + 24) 0;
    }

-- ---- the section

-- the directory, the first run starting at 0, and then the runs, nothing after the last
unfoldable pub run_section : ℕ → List (List ℤ) → List ℕ
run_section g rs = bytes_of summary_bytes (summaries g 0 rs) ++ bytes_of (run_bytes g) rs

-- step 7 in a run: its value k, by the bytes after the directory; a width above 64, or a stored number that reaches past the section (width 0
-- reaches nowhere), is none, which is BROKEN
unfoldable pub in_run : ℕ → List ℕ → Summary → ℕ → Option ℤ
in_run g rest x k =
    let w : ℕ = x.width in
    let run : List ℕ = drop x.start rest in
    cond (leb w max_width && (eqb w 0 || leb (k * w + w) (8 * length run)))
    (signed64 (value_at x.smallest g (fetched run w k)))
    none

-- Header smallest and w are 0; g at least 1; V at least 25 bytes a run
unfoldable pub in_runs : Codec
in_runs =
    record {
      takes = λ vs. true;
      fields = λ vs. record { width = 0; smallest = 0; divisor = divisor vs };
      section = λ vs. run_section (divisor vs) (runs_of vs);
      fields_ok = λ n f v. eqb f.width 0 && eqb f.smallest 0 && leb 1 f.divisor && leb (directory_length n) v;
      value = λ n f s i. in_run f.divisor (drop (directory_length n) s) (summary_at s (i / run_length)) (i % run_length);
    }
