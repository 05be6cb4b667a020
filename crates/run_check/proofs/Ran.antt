-- The tests of a run, one by one: all passed, and the first that fails. Assumes nothing.
use Rattle.format.specs.Kit.{◌≡◌, true, false, List, ℕ, ◌+◌, ◌-◌, ◌*◌, ◌≤◌, ◌<◌, length, eqb-true, leb-true, eq-eqb, ne_eqb, le-leb, lt-leb}
use Rattle.format.specs.Limits.{max_width}
use Rattle.format.specs.Bits.{packed_bytes}
use Rattle.format.specs.ValueRuns.{Summary}
use Rattle.laws.proofs.Tests.{both_true}
use Rattle.scaling.specs.Numbers.{least_from, most_from}
use Rattle.packings.specs.declared.Order as Od
use Rattle.packings.specs.Packings.{spare_ok}
use Rattle.run_check.specs.RunsOk.{part_at, numbers_at, range_ok, largest, run_ok}

-- what they say
pub record Passed (g : ℕ) (rest : List ℕ) (at n : ℕ) (x : Summary) : Type 0 where
  pub starts : x.start ≡ at
  pub narrow : x.width ≤ max_width
  pub within : at + packed_bytes n x.width ≤ length rest
  pub spare : spare_ok Od.Order.High (part_at rest at n x.width) (8 * packed_bytes n x.width - n * x.width) ≡ true
  pub range : range_ok g x (least_from largest (numbers_at rest at n x.width)) (most_from 0 (numbers_at rest at n x.width)) ≡ true

pub passed : (g : ℕ) (rest : List ℕ) (at n : ℕ) (x : Summary) → run_ok g rest at n x ≡ true → Passed g rest at n x
unfolding run_ok
passed g rest at n x t =
    let e = both_true _ _ t in
    let d = both_true _ _ e.0 in
    let c = both_true _ _ d.0 in
    let b = both_true _ _ c.0 in
    record { starts = eqb-true _ _ b.0; narrow = leb-true _ _ b.1; within = leb-true _ _ c.1; spare = d.1; range = e.1 }

module _ (g : ℕ) (rest : List ℕ) (at n : ℕ) (x : Summary) where
  abbrev w : ℕ
  w = x.width

  pub not_start : (x.start ≡ at → ⊥) → run_ok g rest at n x ≡ false
  unfolding run_ok
  not_start h = rw (ne_eqb x.start at h)

  module _ (starts : x.start ≡ at) where
    pub too_wide : max_width < w → run_ok g rest at n x ≡ false
    unfolding run_ok
    too_wide h = rw (eq-eqb x.start at starts, lt-leb w max_width h)

    module _ (narrow : w ≤ max_width) where
      pub no_room : length rest < at + packed_bytes n w → run_ok g rest at n x ≡ false
      unfolding run_ok
      no_room h = rw (eq-eqb x.start at starts, le-leb w max_width narrow, lt-leb (at + packed_bytes n w) (length rest) h)

      module _ (within : at + packed_bytes n w ≤ length rest) where
        pub bad_spare : spare_ok Od.Order.High (part_at rest at n w) (8 * packed_bytes n w - n * w) ≡ false → run_ok g rest at n x ≡ false
        unfolding run_ok
        bad_spare h = rw (eq-eqb x.start at starts, le-leb w max_width narrow, le-leb (at + packed_bytes n w) (length rest) within, h)

        -- the range decides
        pub by_range : spare_ok Od.Order.High (part_at rest at n w) (8 * packed_bytes n w - n * w) ≡ true
            → run_ok g rest at n x ≡ range_ok g x (least_from largest (numbers_at rest at n w)) (most_from 0 (numbers_at rest at n w))
        unfolding run_ok
        by_range h = rw (eq-eqb x.start at starts, le-leb w max_width narrow, le-leb (at + packed_bytes n w) (length rest) within, h)
