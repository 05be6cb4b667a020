-- What an edition says of values, and all that it says: the header's w, smallest value and g, the value section, the header rules on
-- them, and step 7's value. Everything else of a column is the same in each edition. Assumes nothing.
use Rattle.std.specs.Prelude.{◌/◌, ◌&&◌}
use Rattle.format.specs.Kit.{ℕ, Bool, true, cond, List, Option, none, some, leb, eqb, ℤ}
use Rattle.format.specs.HeaderNumbers.{zigzag, unzigzag}
use Rattle.format.specs.Bits.{packed_bytes}
use Rattle.format.specs.Values.{fits64, smallest, spread, divisor, stored, value_at}

-- the header's numbers 6 to 8: w; the smallest value's number; g
pub record Fields : Type 0 where
  pub width : ℕ
  pub smallest : ℕ
  pub divisor : ℕ

pub record Codec : Type 0 where
  -- the lists of values that it takes (document 02, [12]: not all, in edition 4)
  pub takes : List ℤ → Bool
  -- what a list of values is written as
  pub fields : List ℤ → Fields
  pub section : List ℤ → List ℕ
  -- "Header rules": those on w, smallest and g, given n, and on V
  pub fields_ok : ℕ → Fields → ℕ → Bool
  -- step 7: of n values in a section, that of an ordinal; none is BROKEN
  pub value : ℕ → Fields → List ℕ → ℕ → Option ℤ

-- a value must fit in a signed 64-bit number
unfoldable pub signed64 : ℤ → Option ℤ
signed64 v = cond (fits64 v) (some v) none

-- ---- one smallest value, one divisor and one width for all values (document 01, "Value section")

-- what is left open: the width where stored numbers go up to q, the widths that keep the header rules, and how numbers of w bits
-- are packed into bytes and fetched again
pub record Packing : Type 0 where
  pub width_for : ℕ → ℕ
  pub width_ok : ℕ → Bool
  pub pack : ℕ → List ℕ → List ℕ
  pub fetch : List ℕ → ℕ → ℕ → ℕ

-- the width for (max - min) / g
abbrev pub width_by : Packing → List ℤ → ℕ
width_by k vs = k.width_for (spread vs / divisor vs)

-- g at least 1; V = n times w over 8, rounded up; value = smallest + g times the stored number
unfoldable pub scaled : Packing → Codec
scaled k =
    record {
      takes = λ vs. true;
      fields = λ vs. record { width = width_by k vs; smallest = zigzag (smallest vs); divisor = divisor vs };
      section = λ vs. k.pack (width_by k vs) (stored vs);
      fields_ok = λ n f v. k.width_ok f.width && leb 1 f.divisor && eqb v (packed_bytes n f.width);
      value = λ n f s i. signed64 (value_at (unzigzag f.smallest) f.divisor (k.fetch s f.width i));
    }
