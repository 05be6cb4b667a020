-- The tests of a value section of edition 3 (document 02, [11]), given n and the header's g, which keep the header rules. Assumes nothing.
use Rattle.std.specs.Prelude.{◌+◌, ◌-◌, ◌*◌, ◌/◌, ◌%◌, ◌^◌, ◌&&◌, ◌||◌}
use Rattle.format.specs.Kit.{ℕ, zero, suc, min, Bool, List, length, take, drop, leb, eqb}
use Rattle.format.specs.Limits.{max_width}
use Rattle.format.specs.Bits.{packed_bytes, unpacked}
use Rattle.format.specs.Values.{over, gcd, gcd_from}
use Rattle.format.specs.Codec.{Fields}
use Rattle.format.specs.ValueRuns.{run_length, run_count, directory_length, Summary, summary_at}
use Rattle.signed.specs.Sign.{biased}
use Rattle.scaling.specs.Numbers.{least_from, most_from}
use Rattle.packings.specs.declared.Order as Od
use Rattle.packings.specs.Packings.{spare_ok}

-- ---- a run

-- the bytes of n numbers of w bits, and the numbers
abbrev pub part_at : List ℕ → ℕ → ℕ → ℕ → List ℕ
part_at rest at n w = take (packed_bytes n w) (drop at rest)

abbrev pub numbers_at : List ℕ → ℕ → ℕ → ℕ → List ℕ
numbers_at rest at n w = unpacked w n (part_at rest at n w)

-- of which lo is the least and hi the greatest: 0 is among them, so the smallest value is there; the width is the least; the greatest
-- value is theirs
unfoldable pub range_ok : ℕ → Summary → ℕ → ℕ → Bool
range_ok g x lo hi =
    eqb lo 0 && (eqb x.width 0 || leb (2 ^ (x.width - 1)) hi) && eqb (biased x.smallest + g * hi) (biased x.greatest)

abbrev pub largest : ℕ
largest = 2 ^ 64 - 1

-- n values at a byte after the directory: where the run before ended, within the section, spare bits 0
unfoldable pub run_ok : ℕ → List ℕ → ℕ → ℕ → Summary → Bool
run_ok g rest at n x =
    let w : ℕ = x.width in
    eqb x.start at && leb w max_width && leb (at + packed_bytes n w) (length rest)
    && spare_ok Od.Order.High (part_at rest at n w) (8 * packed_bytes n w - n * w)
    && range_ok g x (least_from largest (numbers_at rest at n w)) (most_from 0 (numbers_at rest at n w))

-- ---- all runs

-- of the smallest values' distances to the first one, and of the stored numbers, these are the greatest common divisors: g is that of all
-- differences, or 1 where there is none
unfoldable pub divisor_ok : ℕ → ℕ → ℕ → Bool
divisor_ok g apart d =
    let c : ℕ = gcd (apart / g) d in
    eqb (apart % g) 0 && (eqb c 1 || (eqb c 0 && eqb g 1))

-- k runs, r and on, of n values; the runs before end at a byte
unfoldable pub runs_ok : ℕ → List ℕ → List ℕ → ℕ → ℕ → ℕ → ℕ → ℕ → ℕ → Bool
runs_ok g s rest n zero r at apart d = eqb at (length rest) && divisor_ok g apart d
runs_ok g s rest n (suc k) r at apart d =
    let x : Summary = summary_at s r in
    let m : ℕ = min run_length (n - run_length * r) in
    let later : Bool =
    runs_ok g s rest n k (suc r) (at + packed_bytes m x.width) (gcd apart (over (summary_at s 0).smallest x.smallest))
    (gcd_from d (numbers_at rest at m x.width)) in
    run_ok g rest at m x && later

unfoldable pub values_ok : ℕ → Fields → List ℕ → Bool
values_ok n f s = runs_ok f.divisor s (drop (directory_length n) s) n (run_count n) 0 0 0 0
